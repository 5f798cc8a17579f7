-- Lists stay in the order of a comparison where elements are left out or put in at their places.
use Rattle.std.proofs.Common.{◌≡◌, Bool, true, false, not, List, [], ◌∷◌, get_or, filter, refl, sym, ap, ◌∙◌, inl, inr}
use Rattle.std.specs.List.{list_all}
use Rattle.std.specs.declared.cmp.Ordering.{Ordering}
use Rattle.std.specs.declared.cmp.Ordering.TheVariants.{Less, Equal, Greater}
use Rattle.std.specs.Ordering.{is_lt, is_le, is_gt, ordering_reverse}
use Rattle.std.specs.Cmp.{IsTotalOrder}
use Rattle.std.proofs.lemmas.Bool.{and_parts, and_from, cases_Bool, cond-true, cond-false, not-true, false≢true}
use Rattle.std.proofs.lemmas.List.Elements.{All-filter}
use Rattle.std.proofs.lemmas.List.Sums.{AllPass-from_list_all, list_all-from_AllPass}
use Rattle.std.proofs.lemmas.Cmp.{upto}
use Rattle.xdb_lists.specs.Sorted.{is_sorted, put_in, put_all_in}

le-not_gt : (r : Ordering) → is_le r ≡ not (is_gt r)
le-not_gt Less = refl
le-not_gt Equal = refl
le-not_gt Greater = refl

le-not_lt_turned : (r : Ordering) → is_le (ordering_reverse r) ≡ not (is_lt r)
le-not_lt_turned Less = refl
le-not_lt_turned Equal = refl
le-not_lt_turned Greater = refl

lt_le : (r : Ordering) → is_lt r ≡ true → is_le r ≡ true
lt_le Less h = refl
lt_le Equal h = absurd (false≢true h)
lt_le Greater h = absurd (false≢true h)

-- ---- what holds of each

pub all_filter : {X : Type 0} (p q : X → Bool) (xs : List X) → list_all p xs ≡ true → list_all p (filter q xs) ≡ true
all_filter p q xs all = list_all-from_AllPass p (filter q xs) (All-filter q (λ x. p x ≡ true) xs (AllPass-from_list_all p xs all))

module _ {X : Type 0} (cmp : X → X → Ordering) where
  -- with one more of which it holds
  pub all_put_in : (p : X → Bool) (t : X) (xs : List X) → p t ≡ true → list_all p xs ≡ true → list_all p (put_in cmp t xs) ≡ true
  all_put_in p t [] one all = and_from _ _ one refl
  all_put_in p t (x ∷ xs) one all =
      let parts = and_parts (p x) (list_all p xs) all in
      elim (cases_Bool (is_lt (cmp x t))) [
        | inl less ↦ ap (list_all p) (cond-true (is_lt (cmp x t)) (x ∷ put_in cmp t xs) (t ∷ x ∷ xs) less) ∙ and_from _ _ parts.0 (all_put_in p t xs one parts.1)
        | inr more ↦ ap (list_all p) (cond-false (is_lt (cmp x t)) (x ∷ put_in cmp t xs) (t ∷ x ∷ xs) more) ∙ and_from _ _ one all
      ]

  pub all_put_all_in : (p : X → Bool) (xs ts : List X) → list_all p xs ≡ true → list_all p ts ≡ true → list_all p (put_all_in cmp xs ts) ≡ true
  all_put_all_in p [] ts more all = all
  all_put_all_in p (x ∷ xs) ts more all =
      let parts = and_parts (p x) (list_all p xs) more in
      all_put_all_in p xs (put_in cmp x ts) parts.1 (all_put_in p x ts parts.0 all)

  -- ---- sorted

  pub sorted_filter : (q : X → Bool) (xs : List X) → is_sorted cmp xs ≡ true → is_sorted cmp (filter q xs) ≡ true
  sorted_filter q [] sorted = refl
  sorted_filter q (x ∷ xs) sorted =
      let parts = and_parts (list_all (λ u. is_le (cmp x u)) xs) (is_sorted cmp xs) sorted in
      elim (cases_Bool (q x)) [
        | inl kept ↦ ap (is_sorted cmp) (cond-true (q x) (x ∷ filter q xs) (filter q xs) kept) ∙ and_from _ _ (all_filter (λ u. is_le (cmp x u)) q xs parts.0) (sorted_filter q xs parts.1)
        | inr left ↦ ap (is_sorted cmp) (cond-false (q x) (x ∷ filter q xs) (filter q xs) left) ∙ sorted_filter q xs parts.1
      ]

module _ {X : Type 0} {cmp : X → X → Ordering} (total : IsTotalOrder cmp) where
  le_chain : (a b c : X) → is_le (cmp a b) ≡ true → is_le (cmp b c) ≡ true → is_le (cmp a c) ≡ true
  le_chain a b c p q =
      le-not_gt (cmp a c) ∙ ap not (upto total a b c (not-true _ (sym (le-not_gt (cmp a b)) ∙ p)) (not-true _ (sym (le-not_gt (cmp b c)) ∙ q)))

  pub le_turned : (x t : X) → is_lt (cmp x t) ≡ false → is_le (cmp t x) ≡ true
  le_turned x t h = ap is_le (total.antisymm t x) ∙ le-not_lt_turned (cmp x t) ∙ ap not h

  all_behind : (t x : X) (xs : List X) → is_le (cmp t x) ≡ true → list_all (λ u. is_le (cmp x u)) xs ≡ true → list_all (λ u. is_le (cmp t u)) xs ≡ true
  all_behind t x xs h all =
      list_all-from_AllPass (λ u. is_le (cmp t u)) xs (λ i d l. le_chain t x (get_or xs i d) h (AllPass-from_list_all (λ u. is_le (cmp x u)) xs all i d l))

  sorted_put_in : (t : X) (xs : List X) → is_sorted cmp xs ≡ true → is_sorted cmp (put_in cmp t xs) ≡ true
  sorted_put_in t [] sorted = refl
  sorted_put_in t (x ∷ xs) sorted =
      let parts = and_parts (list_all (λ u. is_le (cmp x u)) xs) (is_sorted cmp xs) sorted in
      elim (cases_Bool (is_lt (cmp x t))) [
        | inl less ↦ ap (is_sorted cmp) (cond-true (is_lt (cmp x t)) (x ∷ put_in cmp t xs) (t ∷ x ∷ xs) less) ∙ and_from _ _ (all_put_in cmp (λ u. is_le (cmp x u)) t xs (lt_le _ less) parts.0) (sorted_put_in t xs parts.1)
        | inr more ↦
            let le = le_turned x t more in
            ap (is_sorted cmp) (cond-false (is_lt (cmp x t)) (x ∷ put_in cmp t xs) (t ∷ x ∷ xs) more) ∙ and_from _ _ (and_from _ _ le (all_behind t x xs le parts.0)) sorted
      ]

  pub sorted_put_all_in : (xs ts : List X) → is_sorted cmp ts ≡ true → is_sorted cmp (put_all_in cmp xs ts) ≡ true
  sorted_put_all_in [] ts sorted = sorted
  sorted_put_all_in (x ∷ xs) ts sorted = sorted_put_all_in xs (put_in cmp x ts) (sorted_put_in x ts sorted)
