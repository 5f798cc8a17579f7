-- Putting elements into a sorted list one by one gives what one stable sort gives, of the last first.
use Rattle.std.proofs.Common.{◌≡◌, ℕ, suc, ◌<◌, ◌≤◌, Bool, true, false, not, ◌&&◌, cond, List, [], ◌∷◌, ◌++◌, length, get_or, filter, reverse, refl, sym, ap, ap₂, ◌∙◌, subst, append_assoc, inl, inr, arith}
use Rattle.std.specs.List.{list_all}
use Rattle.std.specs.List.Sorted.{IsSortedBy, IsStableBy, ties}
use Rattle.std.specs.declared.cmp.Ordering.{Ordering}
use Rattle.std.specs.declared.cmp.Ordering.TheVariants.{Less, Equal, Greater}
use Rattle.std.specs.Ordering.{is_lt, is_le, is_eq, ordering_reverse}
use Rattle.std.specs.Cmp.{IsTotalOrder, Equal-is}
use Rattle.std.proofs.lemmas.Bool.{and_parts, and_from, cases_Bool, cond-true, cond-false, false≢true}
use Rattle.std.proofs.lemmas.List.Elements.{filter-append}
use Rattle.std.proofs.lemmas.List.Sums.{list_all-from_AllPass}
use Rattle.std.proofs.lemmas.Cmp.{tied_itself, alike_right}
use Rattle.std.proofs.lemmas.Grind.{reverse_onto}
use Rattle.std.proofs.lemmas.List.Sorted.{ranks_by, sorted_far}
use Rattle.xdb_lists.specs.Sorted.{put_in, put_all_in, is_sorted}
use Rattle.xdb_lists.proofs.SortedLaws.{le_turned, sorted_put_all_in}

both_le : (r : Ordering) → is_le r ≡ true → is_le (ordering_reverse r) ≡ true → r ≡ Equal
both_le Less h k = absurd (false≢true k)
both_le Equal h k = refl
both_le Greater h k = absurd (false≢true h)

ties_eq : (r : Ordering) → (not (is_lt r) && not (is_lt (ordering_reverse r))) ≡ is_eq r
ties_eq Less = refl
ties_eq Equal = refl
ties_eq Greater = refl

-- what a filter keeps first passes it, and has what all have
first_kept : {X : Type 0} (p q : X → Bool) (xs : List X) (y : X) (ys : List X) → list_all q xs ≡ true → filter p xs ≡ y ∷ ys → (p y ≡ true) × (q y ≡ true)
first_kept p q [] y ys all h = absurd cc
first_kept p q (x ∷ xs) y ys all h =
    let parts = and_parts (q x) (list_all q xs) all in
    elim (cases_Bool (p x)) [
      | inl yes' ↦
          let e : x ∷ filter p xs ≡ y ∷ ys = sym (cond-true (p x) (x ∷ filter p xs) (filter p xs) yes') ∙ h in
          let same : x ≡ y = cc in
          (sym (ap p same) ∙ yes', sym (ap q same) ∙ parts.0)
      | inr no' ↦ first_kept p q xs y ys parts.1 (sym (cond-false (p x) (x ∷ filter p xs) (filter p xs) no') ∙ h)
    ]

-- ---- a sorted list is told by what ties with each element, in order

abbrev tied : {X : Type 0} → (X → X → Ordering) → X → X → Bool
tied cmp x y = is_eq (cmp x y)

module _ {X : Type 0} {cmp : X → X → Ordering} (total : IsTotalOrder cmp) where
  ties_tied : (x : X) → ties (λ a b. is_lt (cmp a b)) x ≡ tied cmp x
  ties_tied x = λ i y. (ap (λ r. not (is_lt (cmp x y)) && not (is_lt r)) (total.antisymm y x) ∙ ties_eq (cmp x y)) i

  -- the first element is upto each that ties with one of the list
  first_upto : (x z : X) (zs : List X) (w : X) (ws : List X) → is_sorted cmp (z ∷ zs) ≡ true → filter (tied cmp x) (z ∷ zs) ≡ w ∷ ws → is_le (cmp z x) ≡ true
  first_upto x z zs w ws sorted h =
      let parts = and_parts (list_all (λ u. is_le (cmp z u)) zs) (is_sorted cmp zs) sorted in
      let itself : is_le (cmp z z) ≡ true = ap is_le (tied_itself total z) in
      let kept = first_kept (tied cmp x) (λ u. is_le (cmp z u)) (z ∷ zs) w ws (and_from _ _ itself parts.0) h in
      ap is_le (alike_right total x w z ((Equal-is (cmp x w)).0 kept.0)) ∙ kept.1

  pub same_sorted : (ys zs : List X) → is_sorted cmp ys ≡ true → is_sorted cmp zs ≡ true → ((x : X) → filter (tied cmp x) ys ≡ filter (tied cmp x) zs) → ys ≡ zs
  same_sorted [] [] sorted_y sorted_z h = refl
  same_sorted [] (z ∷ zs) sorted_y sorted_z h =
      let e : [] ≡ z ∷ filter (tied cmp z) zs = h z ∙ cond-true (tied cmp z z) (z ∷ filter (tied cmp z) zs) (filter (tied cmp z) zs) (ap is_eq (tied_itself total z)) in
      absurd cc
  same_sorted (y ∷ ys) [] sorted_y sorted_z h =
      let e : [] ≡ y ∷ filter (tied cmp y) ys = sym (h y) ∙ cond-true (tied cmp y y) (y ∷ filter (tied cmp y) ys) (filter (tied cmp y) ys) (ap is_eq (tied_itself total y)) in
      absurd cc
  same_sorted (y ∷ ys) (z ∷ zs) sorted_y sorted_z h =
      let here_y : filter (tied cmp y) (y ∷ ys) ≡ y ∷ filter (tied cmp y) ys = cond-true (tied cmp y y) (y ∷ filter (tied cmp y) ys) (filter (tied cmp y) ys) (ap is_eq (tied_itself total y)) in
      let here_z : filter (tied cmp z) (z ∷ zs) ≡ z ∷ filter (tied cmp z) zs = cond-true (tied cmp z z) (z ∷ filter (tied cmp z) zs) (filter (tied cmp z) zs) (ap is_eq (tied_itself total z)) in
      let z_upto : is_le (cmp z y) ≡ true = first_upto y z zs y (filter (tied cmp y) ys) sorted_z (sym (h y) ∙ here_y) in
      let y_upto : is_le (cmp y z) ≡ true = first_upto z y ys z (filter (tied cmp z) zs) sorted_y (h z ∙ here_z) in
      let tie : cmp y z ≡ Equal = both_le (cmp y z) y_upto (sym (ap is_le (total.antisymm z y)) ∙ z_upto) in
      let first_z : filter (tied cmp y) (z ∷ zs) ≡ z ∷ filter (tied cmp y) zs = cond-true (tied cmp y z) (z ∷ filter (tied cmp y) zs) (filter (tied cmp y) zs) (ap is_eq tie) in
      let heads : y ∷ filter (tied cmp y) ys ≡ z ∷ filter (tied cmp y) zs = sym here_y ∙ h y ∙ first_z in
      let same : y ≡ z = cc in
      let behind : (x : X) → filter (tied cmp x) ys ≡ filter (tied cmp x) zs = λ x. same_behind x y z ys zs same (h x) in
      ap₂ ◌∷◌ same (same_sorted ys zs (and_parts (list_all (λ u. is_le (cmp y u)) ys) (is_sorted cmp ys) sorted_y).1 (and_parts (list_all (λ u. is_le (cmp z u)) zs) (is_sorted cmp zs) sorted_z).1 behind)
    where
      same_behind : (x y z : X) (ys zs : List X) → y ≡ z → filter (tied cmp x) (y ∷ ys) ≡ filter (tied cmp x) (z ∷ zs) → filter (tied cmp x) ys ≡ filter (tied cmp x) zs
      same_behind x y z ys zs same h = elim (cases_Bool (tied cmp x y)) [
        | inl yes' ↦
            let e : y ∷ filter (tied cmp x) ys ≡ z ∷ filter (tied cmp x) zs = sym (cond-true (tied cmp x y) (y ∷ filter (tied cmp x) ys) (filter (tied cmp x) ys) yes') ∙ h ∙ cond-true (tied cmp x z) (z ∷ filter (tied cmp x) zs) (filter (tied cmp x) zs) (sym (ap (tied cmp x) same) ∙ yes') in
            cc
        | inr no' ↦
            sym (cond-false (tied cmp x y) (y ∷ filter (tied cmp x) ys) (filter (tied cmp x) ys) no') ∙ h ∙ cond-false (tied cmp x z) (z ∷ filter (tied cmp x) zs) (filter (tied cmp x) zs) (sym (ap (tied cmp x) same) ∙ no')
      ]

  -- ---- putting in

  -- of what stands before another, not both tie with a third
  not_both : (x u t : X) → is_lt (cmp u t) ≡ true → tied cmp x u ≡ true → tied cmp x t ≡ true → ⊥
  not_both x u t less a b =
      let e : cmp x t ≡ cmp u t = total.congr x u t ((Equal-is (cmp x u)).0 a) in
      false≢true (ap is_lt (sym ((Equal-is (cmp x t)).0 b) ∙ e) ∙ less)

  -- an element that is put in stands before what ties with it
  tied_put_in : (x t : X) (ts : List X) → filter (tied cmp x) (put_in cmp t ts) ≡ filter (tied cmp x) (t ∷ ts)
  tied_put_in x t [] = refl
  tied_put_in x t (u ∷ us) =
      let p = tied cmp x in
      elim (cases_Bool (is_lt (cmp u t))) [
        | inl less ↦ ap (filter p) (cond-true (is_lt (cmp u t)) (u ∷ put_in cmp t us) (t ∷ u ∷ us) less) ∙ past less (tied_put_in x t us)
        | inr more ↦ ap (filter p) (cond-false (is_lt (cmp u t)) (u ∷ put_in cmp t us) (t ∷ u ∷ us) more)
      ]
    where
      past : is_lt (cmp u t) ≡ true → filter (tied cmp x) (put_in cmp t us) ≡ filter (tied cmp x) (t ∷ us) → filter (tied cmp x) (u ∷ put_in cmp t us) ≡ filter (tied cmp x) (t ∷ u ∷ us)
      past less rest =
          let p = tied cmp x in
          ap (λ zs. cond (p u) (u ∷ zs) zs) rest ∙ elim (cases_Bool (p u)) [
            | inl yes' ↦
                let off : p t ≡ false = elim (cases_Bool (p t)) [ inl also ↦ absurd (not_both x u t less yes' also) | inr off ↦ off ] in
                ap (λ zs. cond (p u) (u ∷ zs) zs) (cond-false (p t) (t ∷ filter p us) (filter p us) off) ∙ sym (cond-false (p t) (t ∷ filter p (u ∷ us)) (filter p (u ∷ us)) off)
            | inr no' ↦
                cond-false (p u) (u ∷ filter p (t ∷ us)) (filter p (t ∷ us)) no' ∙ ap (λ zs. cond (p t) (t ∷ zs) zs) (sym (cond-false (p u) (u ∷ filter p us) (filter p us) no'))
          ]

  tied_put_all_in : (x : X) (xs ts : List X) → filter (tied cmp x) (put_all_in cmp xs ts) ≡ filter (tied cmp x) (reverse xs ++ ts)
  tied_put_all_in x [] ts = refl
  tied_put_all_in x (y ∷ xs) ts =
      let p = tied cmp x in
      tied_put_all_in x xs (put_in cmp y ts)
      ∙ filter-append p (reverse xs) (put_in cmp y ts)
      ∙ ap (λ zs. filter p (reverse xs) ++ zs) (tied_put_in x y ts)
      ∙ sym (filter-append p (reverse xs) (y ∷ ts))
      ∙ ap (filter p) (sym (append_assoc (reverse xs) (y ∷ []) ts) ∙ ap (λ zs. zs ++ ts) (sym (reverse_onto xs y [])))

  -- ---- a stable sort

  sorted_from_far : (xs : List X) → ((i j : ℕ) (d : X) → i ≤ j → j < length xs → is_lt (cmp (get_or xs j d) (get_or xs i d)) ≡ false) → is_sorted cmp xs ≡ true
  sorted_from_far [] far = refl
  sorted_from_far (x ∷ xs) far = and_from _ _
      (list_all-from_AllPass (λ u. is_le (cmp x u)) xs (λ i d l. le_turned total (get_or xs i d) x (far 0 (suc i) d (omega arith) (omega arith))))
      (sorted_from_far xs (λ i j d le l. far (suc i) (suc j) d (omega arith) (omega arith)))

  pub sorted_by_sort : (xs : List X) → IsSortedBy (λ a b. is_lt (cmp a b)) xs → is_sorted cmp xs ≡ true
  sorted_by_sort xs up = sorted_from_far xs (λ i j d le l. sorted_far (λ a b. is_lt (cmp a b)) (ranks_by total (λ (t : X). t)) xs up i j d le l)

  -- the last first, before what stands, sorted
  pub put_all_in-sorted : (xs ts made : List X) → is_sorted cmp ts ≡ true → IsSortedBy (λ a b. is_lt (cmp a b)) made → IsStableBy (λ a b. is_lt (cmp a b)) (reverse xs ++ ts) made → made ≡ put_all_in cmp xs ts
  put_all_in-sorted xs ts made sorted up stable =
      same_sorted made (put_all_in cmp xs ts) (sorted_by_sort made up) (sorted_put_all_in total xs ts sorted)
      (λ x. subst (λ p. filter p made ≡ filter p (reverse xs ++ ts)) (ties_tied x) (stable x) ∙ sym (tied_put_all_in x xs ts))
