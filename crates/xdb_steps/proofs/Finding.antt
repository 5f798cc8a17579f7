-- What is found in a list by a test, and the others.
use Rattle.std.proofs.Common.{◌≡◌, ℕ, ◌<◌, Bool, true, false, cond, not, List, [], ◌∷◌, map, filter, Option, Some, None, inl, inr, ◌⊎◌, refl, sym, ap, ◌∙◌, arith}
use Rattle.std.proofs.lemmas.Bool.{false≢true, cases_Bool, cond-true, cond-false}
use Rattle.std.specs.List.{find, AllByRecursion}
use Rattle.xdb_model.proofs.ListLaws.{all-filtered, same-or}
use Rattle.xdb_model.specs.Apart.{Pairwise}
use Rattle.xdb_model.specs.Numbered.{RiseTo}
use Rattle.xdb_rangedel.specs.Members.{Has}

-- ---- what is found

module _ {A : Type 0} (test : A → Bool) where
  found-kept : (y x : A) (rest : Option A) (t : Bool) (ys : List A) → test y ≡ t → cond t (Some y) rest ≡ Some x → (rest ≡ Some x → Has ys x × (test x ≡ true)) → Has (y ∷ ys) x × (test x ≡ true)
  found-kept y x rest true ys is e more = let same : y ≡ x = cc in (inl same, ap test (sym same) ∙ is)
  found-kept y x rest false ys is e more = let there = more e in (inr there.0, there.1)

  -- what is found is there, and passes
  pub found-there : (x : A) (xs : List A) → find test xs ≡ Some x → Has xs x × (test x ≡ true)
  found-there x [] e = absurd (cc)
  found-there x (y ∷ ys) e = found-kept y x (find test ys) (test y) ys refl e (found-there x ys)

  -- where none passes, nothing is found
  pub found-none : (xs : List A) → ((x : A) → Has xs x → test x ≡ false) → find test xs ≡ None
  found-none [] off = refl
  found-none (x ∷ xs) off = cond-false (test x) (Some x) (find test xs) (off x (inl refl)) ∙ found-none xs (λ y has. off y (inr has))

  -- where nothing is found, none passes
  none-passes : (y : A) (rest : Option A) (t : Bool) → cond t (Some y) rest ≡ None → (t ≡ false) × (rest ≡ None)
  none-passes y rest true e = absurd (cc)
  none-passes y rest false e = (refl, e)

  pub none-found : (x : A) (xs : List A) → find test xs ≡ None → Has xs x → test x ≡ false
  none-found x [] e has = absurd has
  none-found x (y ∷ ys) e (inl same) = ap test (sym same) ∙ (none-passes y (find test ys) (test y) e).0
  none-found x (y ∷ ys) e (inr has) = none-found x ys (none-passes y (find test ys) (test y) e).1 has

  -- the only one that passes is found
  pub found-only : (x : A) (xs : List A) → Has xs x → test x ≡ true → ((y : A) → Has xs y → test y ≡ true → y ≡ x) → find test xs ≡ Some x
  found-only x [] has is only = absurd has
  found-only x (y ∷ ys) has is only = elim (cases_Bool (test y)) [
    | inl passes ↦ cond-true (test y) (Some y) (find test ys) passes ∙ ap (λ (z : A). Some z) (only y (inl refl) passes)
    | inr fails ↦ cond-false (test y) (Some y) (find test ys) fails ∙ found-only x ys (behind has fails) is (λ z h e. only z (inr h) e)
  ]
    where
      behind : (y ≡ x) ⊎ Has ys x → test y ≡ false → Has ys x
      behind (inl same) fails = absurd (false≢true (sym fails ∙ ap test same ∙ is))
      behind (inr h) fails = h

  -- what holds of each two holds of the one that is found and each that doesn't pass
  pub found-apart : (R : A → A → Type 0) → ((x y : A) → R x y → R y x) → (x : A) (xs : List A) → find test xs ≡ Some x → Pairwise R xs → AllByRecursion (R x) (filter (λ y. not (test y)) xs)
  found-apart R turned x xs e pairs =
      let there = found-there x xs e in
      all-filtered (R x) (λ y. not (test y)) xs (λ y has fails. elim (same-or R turned xs x y pairs there.0 has) [
        | inl same ↦ absurd (false≢true (sym (ap not (ap test (sym same) ∙ there.1)) ∙ fails))
        | inr apart ↦ apart
      ])

-- ---- elements under numbers that rise

module _ {A : Type 0} (number : A → ℕ) where
  above : (last most : ℕ) (x : A) (xs : List A) → RiseTo last most (map number xs) → Has xs x → last < number x
  above last most x [] h has = absurd has
  above last most x (y ∷ ys) h (inl same) = let first = h.0 in let e = ap number same in omega arith
  above last most x (y ∷ ys) h (inr has) = let first = h.0 in let more = above (number y) most x ys h.1 has in omega arith

  -- no two elements have one number
  pub told-by_number : (last most : ℕ) (x y : A) (xs : List A) → RiseTo last most (map number xs) → Has xs x → Has xs y → number x ≡ number y → x ≡ y
  told-by_number last most x y [] h hx hy e = absurd hx
  told-by_number last most x y (z ∷ zs) h (inl a) (inl b) e = sym a ∙ b
  told-by_number last most x y (z ∷ zs) h (inl a) (inr hy) e = let more = above (number z) most y zs h.1 hy in let same = ap number a in absurd (omega arith)
  told-by_number last most x y (z ∷ zs) h (inr hx) (inl b) e = let more = above (number z) most x zs h.1 hx in let same = ap number b in absurd (omega arith)
  told-by_number last most x y (z ∷ zs) h (inr hx) (inr hy) e = told-by_number (number z) most x y zs h.1 hx hy e
