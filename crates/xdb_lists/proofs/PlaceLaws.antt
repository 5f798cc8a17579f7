-- Lists in the order of a number: what stands under it, without that, and with another in its place.
use Rattle.std.proofs.Common.{◌≡◌, ℕ, zero, suc, ◌<◌, Bool, true, false, not, cond, eqb, List, [], ◌∷◌, ◌++◌, length, map, get_or, set, Some, None, inl, inr, refl, sym, ap, ◌∙◌, subst, arith}
use Rattle.std.proofs.lemmas.Bool.{cases_eq, eq-eqb, ne_eqb, cases_Bool}
use Rattle.std.proofs.lemmas.List.{length-map, get_or-map}
use Rattle.std.proofs.lemmas.List.Elements.{All-nil, All-head, All-tail, All-cons}
use Rattle.std.specs.List.{remove, All}
use Rattle.xdb_lists.specs.Keyed.{IsRising, at_key, without, replaced}
use Rattle.xdb_lists.proofs.OrderLaws.{AllPairs-head, AllPairs-tail}

module _ {X : Type 0} (key : X → ℕ) where
  AreAbove : ℕ → List X → Type 0
  AreAbove n xs = All (λ x. n < key x) xs

  apart : (n : ℕ) (x : X) (xs : List X) → AreAbove n (x ∷ xs) → eqb (key x) n ≡ false
  unfolding AreAbove
  apart n x xs above = let low : n < key x = All-head (λ y. n < key y) x xs above in ne_eqb (key x) n (λ e. omega arith)

  rest : (n : ℕ) (x : X) (xs : List X) → AreAbove n (x ∷ xs) → AreAbove n xs
  unfolding AreAbove
  rest n x xs above = All-tail (λ y. n < key y) x xs above

  above-first : (n : ℕ) (x : X) (xs : List X) → IsRising key (x ∷ xs) → n ≡ key x → AreAbove n xs
  unfolding AreAbove
  above-first n x xs rising e = subst (λ m. All (λ y. m < key y) xs) (sym e) (AllPairs-head (λ a b. key a < key b) x xs rising)

  rising-rest : (x : X) (xs : List X) → IsRising key (x ∷ xs) → IsRising key xs
  rising-rest x xs rising = AllPairs-tail (λ a b. key a < key b) x xs rising

  others-above : (n : ℕ) (xs : List X) → AreAbove n xs → without key n xs ≡ xs
  others-above n [] above = refl
  others-above n (x ∷ xs) above =
      ap (λ t. cond (not t) (x ∷ without key n xs) (without key n xs)) (apart n x xs above) ∙ ap (λ ys. x ∷ ys) (others-above n xs (rest n x xs above))

  with_one-above : (r : X) (n : ℕ) (xs : List X) → AreAbove n xs → replaced key r n xs ≡ xs
  with_one-above r n [] above = refl
  with_one-above r n (x ∷ xs) above =
      ap (λ t. cond t r x ∷ replaced key r n xs) (apart n x xs above) ∙ ap (λ ys. x ∷ ys) (with_one-above r n xs (rest n x xs above))

  -- the element at the place of a number, and those before it
  before : (x : X) (xs : List X) (at n : ℕ) → IsRising key (x ∷ xs) → at < length xs → ((d : X) → key (get_or xs at d) ≡ n) → eqb (key x) n ≡ false
  before x xs at n rising l here =
      let low : key x < key (get_or xs at x) = rising 0 (suc at) x (omega arith) (omega arith) in
      let e = here x in
      ne_eqb (key x) n (λ f. omega arith)

  pub remove_is : (n : ℕ) (xs : List X) (at : ℕ) → IsRising key xs → at < length xs → ((d : X) → key (get_or xs at d) ≡ n) → remove xs at ≡ without key n xs
  remove_is n [] at rising l here = absurd (omega arith)
  remove_is n (x ∷ xs) zero rising l here =
      let e = here x in
      sym (ap (λ t. cond (not t) (x ∷ without key n xs) (without key n xs)) (eq-eqb (key x) n e) ∙ others-above n xs (above-first n x xs rising (sym e)))
  remove_is n (x ∷ xs) (suc at) rising l here =
      ap (λ ys. x ∷ ys) (remove_is n xs at (rising-rest x xs rising) (omega arith) here)
      ∙ sym (ap (λ t. cond (not t) (x ∷ without key n xs) (without key n xs)) (before x xs at n rising (omega arith) here))

  pub set_is : (r : X) (n : ℕ) (xs : List X) (at : ℕ) → IsRising key xs → at < length xs → ((d : X) → key (get_or xs at d) ≡ n) → set xs at r ≡ replaced key r n xs
  set_is r n [] at rising l here = absurd (omega arith)
  set_is r n (x ∷ xs) zero rising l here =
      let e = here x in
      sym (ap (λ t. cond t r x ∷ replaced key r n xs) (eq-eqb (key x) n e) ∙ ap (λ ys. r ∷ ys) (with_one-above r n xs (above-first n x xs rising (sym e))))
  set_is r n (x ∷ xs) (suc at) rising l here =
      ap (λ ys. x ∷ ys) (set_is r n xs at (rising-rest x xs rising) (omega arith) here)
      ∙ sym (ap (λ t. cond t r x ∷ replaced key r n xs) (before x xs at n rising (omega arith) here))

  -- what is the same of both is the same of the lists
  pub map-with_one : {Y : Type 0} (f : X → Y) (q r : X) (n : ℕ) (xs : List X) → IsRising key xs → at_key key n xs ≡ Some q → f r ≡ f q → map f (replaced key r n xs) ≡ map f xs
  map-with_one f q r n [] rising there same = refl
  map-with_one f q r n (x ∷ xs) rising there same = elim (cases_eq (key x) n) [
    | inl e ↦
        let test = eq-eqb (key x) n e in
        let is_q : Some x ≡ Some q = sym (ap (λ t. cond t (Some x) (at_key key n xs)) test) ∙ there in
        let same_x : x ≡ q = cc in
        ap (λ t. f (cond t r x) ∷ map f (replaced key r n xs)) test
        ∙ ap (λ y. y ∷ map f (replaced key r n xs)) (same ∙ ap f (sym same_x))
        ∙ ap (λ ys. f x ∷ map f ys) (with_one-above r n xs (above-first n x xs rising (sym e)))
    | inr ne ↦
        let test = ne_eqb (key x) n ne in
        let later : at_key key n xs ≡ Some q = sym (ap (λ t. cond t (Some x) (at_key key n xs)) test) ∙ there in
        ap (λ t. f (cond t r x) ∷ map f (replaced key r n xs)) test
        ∙ ap (λ ys. f x ∷ ys) (map-with_one f q r n xs (rising-rest x xs rising) later same)
  ]

  -- what is found has the number
  pub under-number : (n : ℕ) (q : X) (xs : List X) → at_key key n xs ≡ Some q → key q ≡ n
  under-number n q [] there = absurd (cc)
  under-number n q (x ∷ xs) there = elim (cases_eq (key x) n) [
    | inl e ↦
        let is_q : Some x ≡ Some q = sym (ap (λ t. cond t (Some x) (at_key key n xs)) (eq-eqb (key x) n e)) ∙ there in
        let same_x : x ≡ q = cc in
        ap key (sym same_x) ∙ e
    | inr ne ↦ under-number n q xs (sym (ap (λ t. cond t (Some x) (at_key key n xs)) (ne_eqb (key x) n ne)) ∙ there)
  ]

  -- what holds of all holds of what is found
  pub under-all : (P : X → Type 0) (n : ℕ) (q : X) (xs : List X) → All P xs → at_key key n xs ≡ Some q → P q
  under-all P n q [] all there = absurd (cc)
  under-all P n q (x ∷ xs) all there = elim (cases_Bool (eqb (key x) n)) [
    | inl e ↦
        let is_q : Some x ≡ Some q = sym (ap (λ t. cond t (Some x) (at_key key n xs)) e) ∙ there in
        let same_x : x ≡ q = cc in
        subst P same_x (All-head P x xs all)
    | inr ne ↦ under-all P n q xs (All-tail P x xs all) (sym (ap (λ t. cond t (Some x) (at_key key n xs)) ne) ∙ there)
  ]

  -- nothing stands under a number that none has
  pub under-none : (P : X → Type 0) (n : ℕ) (xs : List X) → All P xs → ((x : X) → P x → key x ≡ n → ⊥) → at_key key n xs ≡ None
  under-none P n [] all off = refl
  under-none P n (x ∷ xs) all off =
      ap (λ t. cond t (Some x) (at_key key n xs)) (ne_eqb (key x) n (off x (All-head P x xs all))) ∙ under-none P n xs (All-tail P x xs all) off

  -- without a number that none has, all stay
  pub others-none : (P : X → Type 0) (n : ℕ) (xs : List X) → All P xs → ((x : X) → P x → key x ≡ n → ⊥) → without key n xs ≡ xs
  others-none P n [] all off = refl
  others-none P n (x ∷ xs) all off =
      ap (λ t. cond (not t) (x ∷ without key n xs) (without key n xs)) (ne_eqb (key x) n (off x (All-head P x xs all))) ∙ ap (λ ys. x ∷ ys) (others-none P n xs (All-tail P x xs all) off)

  -- what holds of all, and of the one that is put in place, holds of all then
  pub all-with_one : (P : X → Type 0) (r : X) (n : ℕ) (xs : List X) → P r → All P xs → All P (replaced key r n xs)
  all-with_one P r n [] here all = all
  all-with_one P r n (x ∷ xs) here all =
      All-cons P (cond (eqb (key x) n) r x) (replaced key r n xs) (one (eqb (key x) n)) (all-with_one P r n xs here (All-tail P x xs all))
    where
      one : (b : Bool) → P (cond b r x)
      one true = here
      one false = All-head P x xs all

  -- the order is that of the numbers
  pub rising-same : (xs ys : List X) → map key ys ≡ map key xs → IsRising key xs → IsRising key ys
  rising-same xs ys same rising = λ i j d less l.
      let long : length ys ≡ length xs = sym (length-map ys key) ∙ ap length same ∙ length-map xs key in
      let at : (k : ℕ) → k < length ys → key (get_or ys k d) ≡ key (get_or xs k d) =
      λ k h. sym (get_or-map key ys k d (key d) h) ∙ ap (λ ns. get_or ns k (key d)) same ∙ get_or-map key xs k d (key d) (omega arith) in
      let low = rising i j d less (omega arith) in
      let a = at i (omega arith) in
      let b = at j l in
      omega arith

  -- ---- one element more, or another in place of one

  -- what is put behind others is found where none of them has its number
  pub under-pushed : (n : ℕ) (x : X) (xs : List X) → at_key key n xs ≡ None → key x ≡ n → at_key key n (xs ++ x ∷ []) ≡ Some x
  under-pushed n x [] none is = ap (λ t. cond t (Some x) None) (eq-eqb (key x) n is)
  under-pushed n x (y ∷ ys) none is = by (eqb (key y) n) none (λ off. under-pushed n x ys off is)
    where
      by : (t : Bool) → cond t (Some y) (at_key key n ys) ≡ None → (at_key key n ys ≡ None → at_key key n (ys ++ x ∷ []) ≡ Some x) → cond t (Some y) (at_key key n (ys ++ x ∷ [])) ≡ Some x
      by true none rest = absurd (cc)
      by false none rest = rest none

  -- what is put in the place of one is found there
  pub under-placed : (n : ℕ) (q r : X) (xs : List X) → key r ≡ n → at_key key n xs ≡ Some q → at_key key n (replaced key r n xs) ≡ Some r
  under-placed n q r [] is there = absurd (cc)
  under-placed n q r (x ∷ xs) is there = elim (cases_Bool (eqb (key x) n)) [
    | inl e ↦
        ap (λ t. cond (eqb (key (cond t r x)) n) (Some (cond t r x)) (at_key key n (replaced key r n xs))) e
        ∙ ap (λ t. cond t (Some r) (at_key key n (replaced key r n xs))) (eq-eqb (key r) n is)
    | inr e ↦
        ap (λ t. cond (eqb (key (cond t r x)) n) (Some (cond t r x)) (at_key key n (replaced key r n xs))) e
        ∙ ap (λ t. cond t (Some x) (at_key key n (replaced key r n xs))) e
        ∙ under-placed n q r xs is (sym (ap (λ t. cond t (Some x) (at_key key n xs)) e) ∙ there)
  ]

  -- what holds of the one in place, and of the others there
  pub all-placed : (P Q : X → Type 0) (n : ℕ) (r : X) (xs : List X) → Q r → ((x : X) → P x → eqb (key x) n ≡ false → Q x) → All P xs → All Q (replaced key r n xs)
  all-placed P Q n r [] here other all = All-nil Q
  all-placed P Q n r (x ∷ xs) here other all =
      All-cons Q (cond (eqb (key x) n) r x) (replaced key r n xs) (one (eqb (key x) n) refl) (all-placed P Q n r xs here other (All-tail P x xs all))
    where
      one : (t : Bool) → eqb (key x) n ≡ t → Q (cond t r x)
      one true e = here
      one false e = other x (All-head P x xs all) e

  -- what holds of all that have another number holds of the others
  pub all-others : (P : X → Type 0) (n : ℕ) (xs : List X) → All (λ x. eqb (key x) n ≡ false → P x) xs → All P (without key n xs)
  all-others P n [] all = All-nil P
  all-others P n (x ∷ xs) all = one (eqb (key x) n) refl (all-others P n xs (All-tail (λ y. eqb (key y) n ≡ false → P y) x xs all))
    where
      one : (t : Bool) → eqb (key x) n ≡ t → All P (without key n xs) → All P (cond (not t) (x ∷ without key n xs) (without key n xs))
      one true e rest = rest
      one false e rest = All-cons P x (without key n xs) (All-head (λ y. eqb (key y) n ≡ false → P y) x xs all e) rest
