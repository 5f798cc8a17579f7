-- What a comparison of numbers tells, and lists in an order of their own, with one element more.
use Rattle.std.proofs.Common.{◌≡◌, ℕ, suc, ◌+◌, ◌-◌, ◌<◌, ◌≤◌, List, ◌∷◌, length, get_or, sym, ap, subst, ◌∙◌, inl, inr, arith}
use Rattle.std.specs.List.{All, AllPairs, insert}
use Rattle.std.specs.declared.cmp.Ordering.TheVariants.{Less, Equal, Greater}
use Rattle.std.specs.Ordering.{nat_cmp}
use Rattle.std.proofs.lemmas.Bool.{cases_order}
use Rattle.std.proofs.lemmas.Cmp.{ranked}
use Rattle.std.proofs.lemmas.List.Edits.{length-insert, get_or-insert_below, get_or-insert_at, get_or-insert_above}

pub equal_tells : (a b : ℕ) → nat_cmp a b ≡ Equal → a ≡ b
equal_tells a b h = let r = ranked a b Equal (sym h) in r

pub less_tells : (a b : ℕ) → nat_cmp a b ≡ Less → a < b
less_tells a b h = let r = ranked a b Less (sym h) in r

pub greater_tells : (a b : ℕ) → nat_cmp a b ≡ Greater → b < a
greater_tells a b h = let r = ranked a b Greater (sym h) in r

pub AllPairs-head : {X : Type 0} (R : X → X → Type 0) (x : X) (xs : List X) → AllPairs R (x ∷ xs) → All (R x) xs
AllPairs-head R x xs h = λ k d l. h 0 (suc k) d (omega arith) (omega arith)

pub AllPairs-tail : {X : Type 0} (R : X → X → Type 0) (x : X) (xs : List X) → AllPairs R (x ∷ xs) → AllPairs R xs
AllPairs-tail R x xs h = λ i j d less l. h (suc i) (suc j) d (omega arith) (omega arith)

module _ {X : Type 0} (R : X → X → Type 0) (xs : List X) (i : ℕ) (y : X) (within : i ≤ length xs) where
  -- an element of the longer list is the new one, or one of those before it or behind it
  after : (b : ℕ) (d : X) → i < b → get_or (insert xs i y) b d ≡ get_or xs (b - 1) d
  after b d less =
      let next : b ≡ b - 1 + 1 = omega arith in
      ap (λ (n : ℕ). get_or (insert xs i y) n d) next ∙ get_or-insert_above xs i y d (b - 1) (omega arith) within

  pub all_pairs_insert : AllPairs R xs → ((k : ℕ) (d : X) → k < i → R (get_or xs k d) y) → ((k : ℕ) (d : X) → i ≤ k → k < length xs → R y (get_or xs k d)) → AllPairs R (insert xs i y)
  all_pairs_insert pairs before behind = λ a b d less l.
      let long = length-insert xs i y within in
      elim (cases_order a i) [
        | inl at ↦ subst (λ (x : X). R x (get_or (insert xs i y) b d)) (sym (ap (λ (n : ℕ). get_or (insert xs i y) n d) at ∙ get_or-insert_at xs i y d within))
            (subst (λ (x : X). R y x) (sym (after b d (omega arith))) (behind (b - 1) d (omega arith) (omega arith)))
        | inr (inl front) ↦ subst (λ (x : X). R x (get_or (insert xs i y) b d)) (sym (get_or-insert_below xs i y d a front within)) (elim (cases_order b i) [
          | inl here ↦ subst (λ (x : X). R (get_or xs a d) x) (sym (ap (λ (n : ℕ). get_or (insert xs i y) n d) here ∙ get_or-insert_at xs i y d within)) (before a d front)
          | inr (inl low) ↦ subst (λ (x : X). R (get_or xs a d) x) (sym (get_or-insert_below xs i y d b low within)) (pairs a b d less (omega arith))
          | inr (inr high) ↦ subst (λ (x : X). R (get_or xs a d) x) (sym (after b d high)) (pairs a (b - 1) d (omega arith) (omega arith))
        ])
        | inr (inr back) ↦ subst (λ (x : X). R x (get_or (insert xs i y) b d)) (sym (after a d back))
            (subst (λ (x : X). R (get_or xs (a - 1) d) x) (sym (after b d (omega arith))) (pairs (a - 1) (b - 1) d (omega arith) (omega arith)))
      ]
