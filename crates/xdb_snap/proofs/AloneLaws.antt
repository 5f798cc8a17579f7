-- An element that alone in its list passes a test: found, taken out, changed; and a list in which none does.
use Rattle.std.proofs.Common.{◌≡◌, ℕ, zero, suc, ◌<◌, Bool, true, false, not, cond, List, [], ◌∷◌, length, map, filter, get_or, set, Some, None, refl, sym, ap, ◌∙◌, arith}
use Rattle.std.specs.List.{find, remove, slice_get, position, position_or_len}
use Rattle.std.specs.Prelude.{nat_lt}
use Rattle.std.proofs.lemmas.Bool.Decides.{nat_tests}
use Rattle.std.proofs.lemmas.List.Folds.{find_at}
use Rattle.std.proofs.lemmas.Option.{slice_get_past}

module _ {X : Type 0} (test : X → Bool) where
  -- ---- none passes

  pub none-each : (xs : List X) → find test xs ≡ None → (k : ℕ) (d : X) → k < length xs → test (get_or xs k d) ≡ false
  none-each [] none k d l = absurd (omega arith)
  none-each (x ∷ xs) none k d l = at (test x) refl none (λ off. none-each xs off) k l
    where
      at : (t : Bool) → test x ≡ t → cond t (Some x) (find test xs) ≡ None → (find test xs ≡ None → (k : ℕ) (d : X) → k < length xs → test (get_or xs k d) ≡ false) → (k : ℕ) → k < length (x ∷ xs) → test (get_or (x ∷ xs) k d) ≡ false
      at true is off rest k l = absurd (cc)
      at false is off rest zero l = is
      at false is off rest (suc k) l = rest off k d (omega arith)

  pub none-left_out : (xs : List X) → ((k : ℕ) (d : X) → k < length xs → test (get_or xs k d) ≡ false) → filter (λ x. not (test x)) xs ≡ xs
  none-left_out [] off = refl
  none-left_out (x ∷ xs) off =
      ap (λ t. cond (not t) (x ∷ filter (λ y. not (test y)) xs) (filter (λ y. not (test y)) xs)) (off 0 x (omega arith))
      ∙ ap (λ ys. x ∷ ys) (none-left_out xs (λ k d l. off (suc k) d (omega arith)))

  pub none-changed : (f : X → X) (xs : List X) → ((k : ℕ) (d : X) → k < length xs → test (get_or xs k d) ≡ false) → map (λ x. cond (test x) (f x) x) xs ≡ xs
  none-changed f [] off = refl
  none-changed f (x ∷ xs) off =
      ap (λ t. cond t (f x) x ∷ map (λ y. cond (test y) (f y) y) xs) (off 0 x (omega arith))
      ∙ ap (λ ys. x ∷ ys) (none-changed f xs (λ k d l. off (suc k) d (omega arith)))

  pub none-found : (xs : List X) → position test xs ≡ None → find test xs ≡ None
  none-found xs none = find_at test xs ∙ by (nat_lt (position_or_len test xs) (length xs)) refl none
    where
      by : (t : Bool) → nat_lt (position_or_len test xs) (length xs) ≡ t → cond t (Some (position_or_len test xs)) None ≡ None → slice_get xs (position_or_len test xs) ≡ None
      by true is off = absurd (cc)
      by false is off = slice_get_past xs (position_or_len test xs) (grind (arith, nat_tests, is))

  -- ---- one alone does

  rest-alone : (x : X) (xs : List X) (at : ℕ) → ((k : ℕ) (d : X) → k < length (x ∷ xs) → (k ≡ suc at → ⊥) → test (get_or (x ∷ xs) k d) ≡ false) → (k : ℕ) (d : X) → k < length xs → (k ≡ at → ⊥) → test (get_or xs k d) ≡ false
  rest-alone x xs at others k d l ne = others (suc k) d (omega arith) (λ e. ne (omega arith))

  rest-none : (x : X) (xs : List X) → ((k : ℕ) (d : X) → k < length (x ∷ xs) → (k ≡ 0 → ⊥) → test (get_or (x ∷ xs) k d) ≡ false) → (k : ℕ) (d : X) → k < length xs → test (get_or xs k d) ≡ false
  rest-none x xs others k d l = others (suc k) d (omega arith) (λ e. omega arith)

  first-off : (x : X) (xs : List X) (at : ℕ) → ((k : ℕ) (d : X) → k < length (x ∷ xs) → (k ≡ suc at → ⊥) → test (get_or (x ∷ xs) k d) ≡ false) → test x ≡ false
  first-off x xs at others = others 0 x (omega arith) (λ e. omega arith)

  pub alone-found : (y : X) (xs : List X) (at : ℕ) → at < length xs → get_or xs at y ≡ y → test y ≡ true → ((k : ℕ) (d : X) → k < length xs → (k ≡ at → ⊥) → test (get_or xs k d) ≡ false) → find test xs ≡ Some y
  alone-found y [] at l here is others = absurd (omega arith)
  alone-found y (x ∷ xs) zero l here is others = ap (λ t. cond t (Some x) (find test xs)) (ap test here ∙ is) ∙ ap Some here
  alone-found y (x ∷ xs) (suc at) l here is others =
      ap (λ t. cond t (Some x) (find test xs)) (first-off x xs at others) ∙ alone-found y xs at (omega arith) here is (rest-alone x xs at others)

  pub alone-left_out : (y : X) (xs : List X) (at : ℕ) → at < length xs → get_or xs at y ≡ y → test y ≡ true → ((k : ℕ) (d : X) → k < length xs → (k ≡ at → ⊥) → test (get_or xs k d) ≡ false) → remove xs at ≡ filter (λ x. not (test x)) xs
  alone-left_out y [] at l here is others = absurd (omega arith)
  alone-left_out y (x ∷ xs) zero l here is others =
      sym (ap (λ t. cond (not t) (x ∷ filter (λ z. not (test z)) xs) (filter (λ z. not (test z)) xs)) (ap test here ∙ is) ∙ none-left_out xs (rest-none x xs others))
  alone-left_out y (x ∷ xs) (suc at) l here is others =
      ap (λ ys. x ∷ ys) (alone-left_out y xs at (omega arith) here is (rest-alone x xs at others))
      ∙ sym (ap (λ t. cond (not t) (x ∷ filter (λ z. not (test z)) xs) (filter (λ z. not (test z)) xs)) (first-off x xs at others))

  pub alone-changed : (f : X → X) (y : X) (xs : List X) (at : ℕ) → at < length xs → get_or xs at y ≡ y → test y ≡ true → ((k : ℕ) (d : X) → k < length xs → (k ≡ at → ⊥) → test (get_or xs k d) ≡ false) → set xs at (f y) ≡ map (λ x. cond (test x) (f x) x) xs
  alone-changed f y [] at l here is others = absurd (omega arith)
  alone-changed f y (x ∷ xs) zero l here is others =
      sym (
      ap (λ t. cond t (f x) x ∷ map (λ z. cond (test z) (f z) z) xs) (ap test here ∙ is)
      ∙ ap (λ z. f z ∷ map (λ z. cond (test z) (f z) z) xs) here
      ∙ ap (λ ys. f y ∷ ys) (none-changed f xs (rest-none x xs others))
      )
  alone-changed f y (x ∷ xs) (suc at) l here is others =
      ap (λ ys. x ∷ ys) (alone-changed f y xs at (omega arith) here is (rest-alone x xs at others))
      ∙ sym (ap (λ t. cond t (f x) x ∷ map (λ z. cond (test z) (f z) z) xs) (first-off x xs at others))
