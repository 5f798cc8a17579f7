-- Lists in the order of a number: sought, changed at a place, put in and taken out.
use Rattle.std.proofs.Common.{◌≡◌, ℕ, suc, ◌+◌, ◌<◌, ◌≤◌, cond, eqb, List, [], ◌∷◌, ◌++◌, map, length, get_or, take, drop, set, Option, Some, None, Result, Ok, Err, refl, sym, ap, ◌∙◌, inl, inr, add-one, arith}
use Rattle.std.specs.List.{insert, remove}
use Rattle.std.specs.List.Sorted.{IsBinarySearchResult, IsSearchInRange, IsNonDecreasingBy}
use Rattle.std.specs.Option.{option_or}
use Rattle.std.specs.Ordering.{nat_cmp, ordering_index}
use Rattle.std.proofs.lemmas.Bool.{cases_order, cases_lt, cases_eq, eq-eqb, ne_eqb, cond-true, cond-false}
use Rattle.std.proofs.lemmas.Bool.Decides.{nat_tests}
use Rattle.std.proofs.lemmas.List.{take-append-drop, drop_more, set_split, get_or-take, length-take, length-set, get_or-set_same, get_or-set_other, get_or-map, length-map}
use Rattle.std.proofs.lemmas.List.Edits.{length-remove, get_or-remove_below, get_or-remove_above}
use Rattle.std.proofs.lemmas.List.Folds.{find-append}
use Rattle.xdb_lists.specs.Numbers.{EndsAt}
use Rattle.xdb_lists.specs.Keyed.{IsRising, at_key}
use Rattle.xdb_lists.proofs.OrderLaws.{all_pairs_insert, equal_tells, less_tells, greater_tells}

index_rises : (num a b : ℕ) → a < b → ordering_index (nat_cmp a num) ≤ ordering_index (nat_cmp b num)
index_rises num a b less = grind (arith, nat_tests)

module _ {X : Type 0} (key : X → ℕ) where
  rising-searchable : (num : ℕ) (xs : List X) → IsRising key xs → IsNonDecreasingBy (λ x. ordering_index (nat_cmp (key x) num)) xs
  rising-searchable num xs rising = λ i j d le l. elim (cases_order i j) [
    | inl e ↦ let same : ordering_index (nat_cmp (key (get_or xs i d)) num) ≡ ordering_index (nat_cmp (key (get_or xs j d)) num) = ap (λ k. ordering_index (nat_cmp (key (get_or xs k d)) num)) e in omega arith
    | inr (inl less) ↦ index_rises num (key (get_or xs i d)) (key (get_or xs j d)) (rising i j d less l)
    | inr (inr more) ↦ absurd (omega arith)
  ]

  pub key_sought : (num : ℕ) (xs : List X) (r : Result ℕ ℕ) → IsRising key xs → IsSearchInRange r (length xs) → IsBinarySearchResult (λ x. nat_cmp (key x) num) xs r → EndsAt key (λ x. key x < num) (λ x. num < key x) xs num r
  key_sought num xs (Ok at) rising bound h = (bound, λ d. equal_tells (key (get_or xs at d)) num (h d))
  key_sought num xs (Err at) rising bound h =
      let split = h (rising-searchable num xs rising) in
      (bound, (λ k d low high. less_tells (key (get_or xs k d)) num (split.0 k d low high), λ k d low high. greater_tells (key (get_or xs k d)) num (split.1 k d low high)))

  -- ---- what stands under a number

  none_there : (n : ℕ) (xs : List X) → ((k : ℕ) (d : X) → k < length xs → key (get_or xs k d) ≡ n → ⊥) → at_key key n xs ≡ None
  none_there n [] off = refl
  none_there n (x ∷ xs) off = cond-false (eqb (key x) n) (Some x) (at_key key n xs) (ne_eqb (key x) n (off 0 x (omega arith))) ∙ none_there n xs (λ k d l. off (suc k) d (omega arith))

  none_before : (num : ℕ) (xs : List X) (at : ℕ) → at ≤ length xs → ((k : ℕ) (d : X) → k < at → key (get_or xs k d) < num) → at_key key num (take at xs) ≡ None
  none_before num xs at l before = none_there num (take at xs) (λ k d kl e.
      let long = length-take at xs in
      let same : key (get_or (take at xs) k d) ≡ key (get_or xs k d) = ap key (get_or-take at xs k d (omega arith)) in
      let f = before k d (omega arith) in omega arith)

  parts_at : (xs : List X) (at : ℕ) (d : X) → at < length xs → xs ≡ take at xs ++ get_or xs at d ∷ drop (suc at) xs
  parts_at xs at d l = sym (take-append-drop at xs) ∙ ap (λ ys. take at xs ++ ys) (drop_more xs at d l ∙ ap (λ (k : ℕ). get_or xs at d ∷ drop k xs) (add-one at))

  found_before : (num : ℕ) (xs : List X) (at : ℕ) → IsRising key xs → at < length xs → ((d : X) → key (get_or xs at d) ≡ num) → (k : ℕ) (d : X) → k < at → key (get_or xs k d) < num
  found_before num xs at rising l here k d less = let f = rising k at d less l in let e = here d in omega arith

  -- the element that the search finds
  pub key_found : (num : ℕ) (xs : List X) (at : ℕ) (d : X) → IsRising key xs → at < length xs → ((d : X) → key (get_or xs at d) ≡ num) → at_key key num xs ≡ Some (get_or xs at d)
  key_found num xs at d rising l here =
      ap (at_key key num) (parts_at xs at d l)
      ∙ find-append (λ x. eqb (key x) num) (take at xs) (get_or xs at d ∷ drop (suc at) xs)
      ∙ ap (λ o. option_or o (at_key key num (get_or xs at d ∷ drop (suc at) xs))) (none_before num xs at (omega arith) (found_before num xs at rising l here))
      ∙ cond-true (eqb (key (get_or xs at d)) num) (Some (get_or xs at d)) (at_key key num (drop (suc at) xs)) (eq-eqb (key (get_or xs at d)) num (here d))

  pub key_missing : (num : ℕ) (xs : List X) (at : ℕ) → EndsAt key (λ x. key x < num) (λ x. num < key x) xs num (Err at) → at_key key num xs ≡ None
  key_missing num xs at h = none_there num xs (λ k d l e. elim (cases_lt k at) [
    | inl front ↦ let f = h.1.0 k d (omega arith) front in omega arith
    | inr back ↦ let f = h.1.1 k d back l in omega arith
  ])

  -- ---- one element in place of another of its number

  middle : (n num : ℕ) (front : List X) (y : X) (back : List X) → key y ≡ num → (n ≡ num → ⊥) → at_key key n (front ++ y ∷ back) ≡ at_key key n (front ++ back)
  middle n num front y back e ne =
      find-append (λ x. eqb (key x) n) front (y ∷ back)
      ∙ ap (option_or (at_key key n front)) (cond-false (eqb (key y) n) (Some y) (at_key key n back) (ne_eqb (key y) n (λ f. ne (sym f ∙ e))))
      ∙ sym (find-append (λ x. eqb (key x) n) front back)

  middle_here : (num : ℕ) (front : List X) (y : X) (back : List X) → key y ≡ num → at_key key num front ≡ None → at_key key num (front ++ y ∷ back) ≡ Some y
  middle_here num front y back e none =
      find-append (λ x. eqb (key x) num) front (y ∷ back)
      ∙ ap (λ o. option_or o (at_key key num (y ∷ back))) none
      ∙ cond-true (eqb (key y) num) (Some y) (at_key key num back) (eq-eqb (key y) num e)

  pub key_set : (num : ℕ) (xs : List X) (at : ℕ) (y : X) → IsRising key xs → at < length xs → ((d : X) → key (get_or xs at d) ≡ num) → key y ≡ num → (n : ℕ) → at_key key n (set xs at y) ≡ cond (eqb n num) (Some y) (at_key key n xs)
  key_set num xs at y rising l here e n =
      ap (at_key key n) (set_split xs at y l) ∙ elim (cases_eq n num) [
        | inl same ↦ ap (λ k. at_key key k (take at xs ++ y ∷ drop (suc at) xs)) same ∙ middle_here num (take at xs) y (drop (suc at) xs) e (none_before num xs at (omega arith) (found_before num xs at rising l here)) ∙ sym (cond-true (eqb n num) (Some y) (at_key key n xs) (eq-eqb n num same))
        | inr ne ↦
            middle n num (take at xs) y (drop (suc at) xs) e ne
            ∙ sym (middle n num (take at xs) (get_or xs at y) (drop (suc at) xs) (here y) ne)
            ∙ sym (ap (at_key key n) (parts_at xs at y l))
            ∙ sym (cond-false (eqb n num) (Some y) (at_key key n xs) (ne_eqb n num ne))
      ]

  pub key_insert : (num : ℕ) (xs : List X) (at : ℕ) (y : X) → EndsAt key (λ x. key x < num) (λ x. num < key x) xs num (Err at) → key y ≡ num → (n : ℕ) → at_key key n (insert xs at y) ≡ cond (eqb n num) (Some y) (at_key key n xs)
  key_insert num xs at y h e n = elim (cases_eq n num) [
    | inl same ↦ ap (λ k. at_key key k (insert xs at y)) same ∙ middle_here num (take at xs) y (drop at xs) e (none_before num xs at h.0 (λ k d l. h.1.0 k d (omega arith) l)) ∙ sym (cond-true (eqb n num) (Some y) (at_key key n xs) (eq-eqb n num same))
    | inr ne ↦ middle n num (take at xs) y (drop at xs) e ne ∙ ap (at_key key n) (take-append-drop at xs) ∙ sym (cond-false (eqb n num) (Some y) (at_key key n xs) (ne_eqb n num ne))
  ]

  pub key_remove : (num : ℕ) (xs : List X) (at : ℕ) (d : X) → IsRising key xs → at < length xs → ((d : X) → key (get_or xs at d) ≡ num) → (n : ℕ) → at_key key n (remove xs at) ≡ cond (eqb n num) None (at_key key n xs)
  key_remove num xs at d rising l here n = elim (cases_eq n num) [
    | inl same ↦
        none_there n (remove xs at) (λ k x kl e.
        let long = length-remove xs at l in
        let stands = here x in
        elim (cases_lt k at) [
          | inl front ↦ let f = rising k at x front l in let g : key (get_or (remove xs at) k x) ≡ key (get_or xs k x) = ap key (get_or-remove_below xs at x k front l) in omega arith
          | inr back ↦ let f = rising at (k + 1) x (omega arith) (omega arith) in let g : key (get_or (remove xs at) k x) ≡ key (get_or xs (k + 1) x) = ap key (get_or-remove_above xs at x k back l) in omega arith
        ])
        ∙ sym (cond-true (eqb n num) None (at_key key n xs) (eq-eqb n num same))
    | inr ne ↦
        sym (middle n num (take at xs) (get_or xs at d) (drop (suc at) xs) (here d) ne)
        ∙ sym (ap (at_key key n) (parts_at xs at d l))
        ∙ sym (cond-false (eqb n num) None (at_key key n xs) (ne_eqb n num ne))
  ]

  -- ---- the order stays

  pub rising_insert : (num : ℕ) (xs : List X) (at : ℕ) (y : X) → IsRising key xs → EndsAt key (λ x. key x < num) (λ x. num < key x) xs num (Err at) → key y ≡ num → IsRising key (insert xs at y)
  rising_insert num xs at y rising h e = all_pairs_insert (λ a b. key a < key b) xs at y h.0 rising
      (λ k d l. let f = h.1.0 k d (omega arith) l in omega arith) (λ k d low l. let f = h.1.1 k d low l in omega arith)

  pub rising_set : (xs : List X) (at : ℕ) (y : X) → IsRising key xs → at < length xs → ((d : X) → key (get_or xs at d) ≡ key y) → IsRising key (set xs at y)
  rising_set xs at y rising l here = λ i j d less jl.
      let long = length-set xs at y in
      let f = rising i j d less (omega arith) in
      let keys : (k : ℕ) → key (get_or (set xs at y) k d) ≡ key (get_or xs k d) = λ k. elim (cases_eq k at) [
        | inl e ↦ ap (λ (n : ℕ). key (get_or (set xs at y) n d)) e ∙ ap key (get_or-set_same xs at y d l) ∙ sym (here d) ∙ ap (λ (n : ℕ). key (get_or xs n d)) (sym e)
        | inr ne ↦ ap key (get_or-set_other xs at k y d ne)
      ] in
      let a = keys i in let b = keys j in omega arith

  -- ---- one more at the end

  pub key_pushed : (xs : List X) (y : X) → at_key key (key y) xs ≡ None → (n : ℕ) → at_key key n (xs ++ y ∷ []) ≡ cond (eqb n (key y)) (Some y) (at_key key n xs)
  key_pushed xs y none n = find-append (λ x. eqb (key x) n) xs (y ∷ []) ∙ elim (cases_eq n (key y)) [
    | inl e ↦
        ap (λ o. option_or o (cond (eqb (key y) n) (Some y) None)) (ap (λ k. at_key key k xs) e ∙ none)
        ∙ cond-true (eqb (key y) n) (Some y) None (eq-eqb (key y) n (sym e))
        ∙ sym (cond-true (eqb n (key y)) (Some y) (at_key key n xs) (eq-eqb n (key y) e))
    | inr ne ↦
        ap (option_or (at_key key n xs)) (cond-false (eqb (key y) n) (Some y) None (ne_eqb (key y) n (λ f. ne (sym f))))
        ∙ or_none (at_key key n xs)
        ∙ sym (cond-false (eqb n (key y)) (Some y) (at_key key n xs) (ne_eqb n (key y) ne))
  ]
    where
      or_none : (o : Option X) → option_or o None ≡ o
      or_none (Some x) = refl
      or_none None = refl

-- the order of a key goes over to what is made of each element
pub rising_map : {X Y : Type 0} (key : X → ℕ) (key' : Y → ℕ) (f : X → Y) → ((x : X) → key' (f x) ≡ key x) → (xs : List X) → IsRising key xs → IsRising key' (map f xs)
rising_map key key' f same [] rising = λ i j d less l. absurd (omega arith)
rising_map key key' f same (x ∷ xs) rising = λ i j d less l.
    let long = length-map (x ∷ xs) f in
    let a = ap key' (get_or-map f (x ∷ xs) i x d (omega arith)) in
    let b = ap key' (get_or-map f (x ∷ xs) j x d (omega arith)) in
    let p = same (get_or (x ∷ xs) i x) in
    let q = same (get_or (x ∷ xs) j x) in
    let h = rising i j x less (omega arith) in
    omega arith
