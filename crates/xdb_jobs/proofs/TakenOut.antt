-- The one element that passes a test, found and taken out at its place.
use Rattle.std.proofs.Common.{◌≡◌, ℕ, suc, zero, ◌<◌, Bool, true, false, not, List, [], ◌∷◌, length, get_or, filter, Some, None, refl, sym, ap, ◌∙◌, inl, inr, arith}
use Rattle.std.specs.List.{All, AllPairs, find, remove, position, position_or_len}
use Rattle.std.proofs.lemmas.Bool.{cases_Bool, cases_lt, cond-true, cond-false, lt-ltb, not_from_true, not_from_false, false_from_ne_true}
use Rattle.std.proofs.lemmas.List.Elements.{All-cons, All-tail}
use Rattle.std.proofs.lemmas.List.Folds.{find_at}
use Rattle.std.proofs.lemmas.Option.{slice_get_past}

module _ {X : Type 0} (p : X → Bool) where
  -- nothing is found where the search for its place ends at the end
  pub no_place : (xs : List X) → position p xs ≡ None → find p xs ≡ None
  no_place xs h = find_at p xs ∙ slice_get_past xs (position_or_len p xs) (elim (cases_lt (position_or_len p xs) (length xs)) [
    | inl l ↦ let e : None ≡ Some (position_or_len p xs) = sym h ∙ cond-true _ _ _ (lt-ltb (position_or_len p xs) (length xs) l) in absurd (cc)
    | inr m ↦ m
  ])

  pub none_found : (xs : List X) → find p xs ≡ None → All (λ x. p x ≡ false) xs
  none_found [] h = λ k d l. absurd (omega arith)
  none_found (x ∷ xs) h = elim (cases_Bool (p x)) [
    | inl yes' ↦ let e : Some x ≡ None = sym (cond-true (p x) (Some x) (find p xs) yes') ∙ h in absurd (cc)
    | inr no' ↦ All-cons (λ x. p x ≡ false) x xs no' (none_found xs (sym (cond-false (p x) (Some x) (find p xs) no') ∙ h))
  ]

  -- where none passes, all stay
  pub all_stay : (xs : List X) → All (λ x. p x ≡ false) xs → xs ≡ filter (λ x. not (p x)) xs
  all_stay [] none = refl
  all_stay (x ∷ xs) none =
      ap (λ ys. x ∷ ys) (all_stay xs (All-tail (λ x. p x ≡ false) x xs none))
      ∙ sym (cond-true (not (p x)) (x ∷ filter (λ x. not (p x)) xs) (filter (λ x. not (p x)) xs) (not_from_false (p x) (none 0 x (omega arith))))

  -- at most one passes
  abbrev pub PassOnce : List X → Type 0
  PassOnce xs = AllPairs (λ x y. p x ≡ true → p y ≡ true → ⊥) xs

  others_fail : (x : X) (xs : List X) → PassOnce (x ∷ xs) → p x ≡ true → All (λ y. p y ≡ false) xs
  others_fail x xs once here = λ k d l. false_from_ne_true (p (get_or xs k d)) (λ there. once 0 (suc k) d (omega arith) (omega arith) here there)

  tail_once : (x : X) (xs : List X) → PassOnce (x ∷ xs) → PassOnce xs
  tail_once x xs once = λ i j d less l. once (suc i) (suc j) d (omega arith) (omega arith)

  -- an earlier one fails
  first_fails : (x : X) (xs : List X) (at : ℕ) → PassOnce (x ∷ xs) → at < length xs → ((d : X) → p (get_or (x ∷ xs) (suc at) d) ≡ true) → p x ≡ false
  first_fails x xs at once l here = false_from_ne_true (p x) (λ first. once 0 (suc at) x (omega arith) (omega arith) first (here x))

  pub taken_out : (xs : List X) (at : ℕ) → PassOnce xs → at < length xs → ((d : X) → p (get_or xs at d) ≡ true) → remove xs at ≡ filter (λ x. not (p x)) xs
  taken_out [] at once l here = absurd (omega arith)
  taken_out (x ∷ xs) zero once l here =
      all_stay xs (others_fail x xs once (here x))
      ∙ sym (cond-false (not (p x)) (x ∷ filter (λ x. not (p x)) xs) (filter (λ x. not (p x)) xs) (not_from_true (p x) (here x)))
  taken_out (x ∷ xs) (suc at) once l here =
      let off = first_fails x xs at once (omega arith) here in
      ap (λ ys. x ∷ ys) (taken_out xs at (tail_once x xs once) (omega arith) here)
      ∙ sym (cond-true (not (p x)) (x ∷ filter (λ x. not (p x)) xs) (filter (λ x. not (p x)) xs) (not_from_false (p x) off))

  pub found_there : (xs : List X) (at : ℕ) (d : X) → PassOnce xs → at < length xs → ((d : X) → p (get_or xs at d) ≡ true) → Some (get_or xs at d) ≡ find p xs
  found_there [] at d once l here = absurd (omega arith)
  found_there (x ∷ xs) zero d once l here = sym (cond-true (p x) (Some x) (find p xs) (here x))
  found_there (x ∷ xs) (suc at) d once l here =
      let off = first_fails x xs at once (omega arith) here in
      found_there xs at d (tail_once x xs once) (omega arith) here ∙ sym (cond-false (p x) (Some x) (find p xs) off)
