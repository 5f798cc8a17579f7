-- Tables that are apart, and the part of them that meets a range.
use Rattle.std.proofs.Common.{◌≡◌, ℕ, zero, suc, ◌+◌, ◌<◌, ◌≤◌, Bool, true, false, List, [], ◌∷◌, length, get_or, take, drop, filter, refl, sym, ap, ◌∙◌, inl, inr, arith}
use Rattle.std.specs.List.{list_all, AllWithin}
use Rattle.std.specs.List.Sorted.{IsPartitionedBy, IsPartitionPoint}
use Rattle.std.proofs.lemmas.Bool.{and_parts, and_from, and_left, and_right, cases_order, cases_Bool, not-true, not-false, cond-true, cond-false}
use Rattle.std.proofs.lemmas.List.{length-drop, get_or-drop}
use Rattle.std.proofs.lemmas.List.Elements.{All-drop}
use Rattle.std.proofs.lemmas.List.Sums.{AllPass-from_list_all, list_all-from_AllPass}
use Rattle.xdb_key.specs.Bounds.{Bounds, meets}
use Rattle.xdb_key.specs.Order.{is_below, is_upto}
use Rattle.xdb_key.proofs.OrderLaws.{upto-not_below, upto_from_below, below_trans, upto_below, upto_trans}
use Rattle.xdb_meta.specs.Table.{Table, bounds_of}
use Rattle.xdb_edit.specs.Versions.{is_disjoint, has_range}
use Rattle.xdb_edit.specs.Plans.{meeting}

pub all_drop : {X : Type 0} (p : X → Bool) (n : ℕ) (xs : List X) → list_all p xs ≡ true → list_all p (drop n xs) ≡ true
all_drop p n xs h = list_all-from_AllPass p (drop n xs) (All-drop (λ x. p x ≡ true) n xs (AllPass-from_list_all p xs h))

pub disjoint_drop : (n : ℕ) (ts : List Table) → is_disjoint ts ≡ true → is_disjoint (drop n ts) ≡ true
disjoint_drop zero ts h = h
disjoint_drop (suc n) [] h = refl
disjoint_drop (suc n) (t ∷ ts) h = disjoint_drop n ts (and_parts (list_all (λ u. is_upto t.hi u.lo) ts) (is_disjoint ts) h).1

apart_at : (ts : List Table) (i j : ℕ) (d : Table) → is_disjoint ts ≡ true → i < j → j < length ts → is_upto (get_or ts i d).hi (get_or ts j d).lo ≡ true
apart_at [] i j d h less l = absurd (omega arith)
apart_at (t ∷ ts) i zero d h less l = absurd (omega arith)
apart_at (t ∷ ts) zero (suc j) d h less l = AllPass-from_list_all (λ u. is_upto t.hi u.lo) ts (and_parts (list_all (λ u. is_upto t.hi u.lo) ts) (is_disjoint ts) h).0 j d (omega arith)
apart_at (t ∷ ts) (suc i) (suc j) d h less l = apart_at ts i j d (and_parts (list_all (λ u. is_upto t.hi u.lo) ts) (is_disjoint ts) h).1 (omega arith) (omega arith)

-- ---- what passes a test also passes where it stands earlier

partitioned_by : (p : Table → Bool) (ts : List Table) → is_disjoint ts ≡ true → list_all has_range ts ≡ true → ((s t : Table) → has_range s ≡ true → has_range t ≡ true → is_upto s.hi t.lo ≡ true → p t ≡ true → p s ≡ true) → IsPartitionedBy p ts
partitioned_by p ts disjoint ranges step = λ i j d i_le_j inside h. elim (cases_order i j) [
  | inl e ↦ ap (λ n. p (get_or ts n d)) e ∙ h
  | inr (inl less) ↦ step (get_or ts i d) (get_or ts j d) (AllPass-from_list_all has_range ts ranges i d (omega arith)) (AllPass-from_list_all has_range ts ranges j d inside) (apart_at ts i j d disjoint less inside) h
  | inr (inr more) ↦ absurd (omega arith)
]

pub ends-partitioned : (at : List ℕ) (ts : List Table) → is_disjoint ts ≡ true → list_all has_range ts ≡ true → IsPartitionedBy (λ t. is_upto t.hi at) ts
ends-partitioned at ts disjoint ranges = partitioned_by (λ t. is_upto t.hi at) ts disjoint ranges (λ s t range_s range_t apart h.
    upto_trans s.hi t.lo at apart (upto_trans t.lo t.hi at (upto_from_below t.lo t.hi range_t) h))

pub starts-partitioned : (at : List ℕ) (ts : List Table) → is_disjoint ts ≡ true → list_all has_range ts ≡ true → IsPartitionedBy (λ t. is_below t.lo at) ts
starts-partitioned at ts disjoint ranges = partitioned_by (λ t. is_below t.lo at) ts disjoint ranges (λ s t range_s range_t apart h.
    below_trans s.lo s.hi at range_s (upto_below s.hi t.lo at apart h))

-- ---- a filter that keeps one part whole

filter_none : {X : Type 0} (p : X → Bool) (xs : List X) → AllWithin (λ x. p x ≡ false) xs 0 (length xs) → filter p xs ≡ []
filter_none p [] none = refl
filter_none p (x ∷ xs) none = cond-false (p x) (x ∷ filter p xs) (filter p xs) (none 0 x (omega arith) (omega arith)) ∙ filter_none p xs (λ k d low high. none (suc k) d (omega arith) (omega arith))

filter_skip : {X : Type 0} (p : X → Bool) (n : ℕ) (xs : List X) → n ≤ length xs → AllWithin (λ x. p x ≡ false) xs 0 n → filter p xs ≡ filter p (drop n xs)
filter_skip p zero xs l none = refl
filter_skip p (suc n) [] l none = refl
filter_skip p (suc n) (x ∷ xs) l none = cond-false (p x) (x ∷ filter p xs) (filter p xs) (none 0 x (omega arith) (omega arith)) ∙ filter_skip p n xs (omega arith) (λ k d low high. none (suc k) d (omega arith) (omega arith))

filter_front : {X : Type 0} (p : X → Bool) (n : ℕ) (xs : List X) → AllWithin (λ x. p x ≡ true) xs 0 n → AllWithin (λ x. p x ≡ false) xs n (length xs) → filter p xs ≡ take n xs
filter_front p zero xs all none = filter_none p xs none
filter_front p (suc n) [] all none = refl
filter_front p (suc n) (x ∷ xs) all none = cond-true (p x) (x ∷ filter p xs) (filter p xs) (all 0 x (omega arith) (omega arith)) ∙ ap (λ ys. x ∷ ys) (filter_front p n xs (λ k d low high. all (suc k) d (omega arith) (omega arith)) (λ k d low high. none (suc k) d (omega arith) (omega arith)))

below_from : (a b : List ℕ) → is_upto a b ≡ false → is_below b a ≡ true
below_from a b h = not-false (is_below b a) (sym (upto-not_below a b) ∙ h)

not_below_from : (a b : List ℕ) → is_upto a b ≡ true → is_below b a ≡ false
not_below_from a b h = not-true (is_below b a) (sym (upto-not_below a b) ∙ h)

-- the tables between the two places that the searches find are those that meet the range
pub meeting_part : (r : Bounds) (ts : List Table) (m n : ℕ) → m ≤ length ts → n ≤ length (drop m ts)
    → IsPartitionPoint (λ t. is_upto t.hi r.lo ≡ true) (λ t. is_upto t.hi r.lo ≡ false) ts m
    → IsPartitionPoint (λ t. is_below t.lo r.hi ≡ true) (λ t. is_below t.lo r.hi ≡ false) (drop m ts) n
    → take n (drop m ts) ≡ meeting r ts
meeting_part r ts m n l k_l ends starts =
    let p : Table → Bool = λ t. meets r (bounds_of t) in
    let long = length-drop m ts in
    sym (
    filter_skip p m ts l (λ k d low high. and_left (is_below r.lo (get_or ts k d).hi) (is_below (get_or ts k d).lo r.hi) (not_below_from (get_or ts k d).hi r.lo (ends.0 k d low high)))
    ∙ filter_front p n (drop m ts)
    (λ k d low high. and_from (is_below r.lo (get_or (drop m ts) k d).hi) (is_below (get_or (drop m ts) k d).lo r.hi)
    (below_from (get_or (drop m ts) k d).hi r.lo (ap (λ t. is_upto t.hi r.lo) (get_or-drop m ts k d) ∙ ends.1 (m + k) d (omega arith) (omega arith)))
    (starts.0 k d low high))
    (λ k d low high. and_right (is_below r.lo (get_or (drop m ts) k d).hi) (is_below (get_or (drop m ts) k d).lo r.hi) (starts.1 k d low high))
    )

filter_again : {X : Type 0} (p : X → Bool) (xs : List X) → filter p (filter p xs) ≡ filter p xs
filter_again p [] = refl
filter_again p (x ∷ xs) = elim (cases_Bool (p x)) [
  | inl yes' ↦
      ap (filter p) (cond-true (p x) (x ∷ filter p xs) (filter p xs) yes')
      ∙ cond-true (p x) (x ∷ filter p (filter p xs)) (filter p (filter p xs)) yes'
      ∙ ap (λ ys. x ∷ ys) (filter_again p xs)
      ∙ sym (cond-true (p x) (x ∷ filter p xs) (filter p xs) yes')
  | inr no' ↦
      ap (filter p) (cond-false (p x) (x ∷ filter p xs) (filter p xs) no') ∙ filter_again p xs ∙ sym (cond-false (p x) (x ∷ filter p xs) (filter p xs) no')
]

pub meeting_again : (r : Bounds) (ts : List Table) → meeting r (meeting r ts) ≡ meeting r ts
meeting_again r ts = filter_again (λ t. meets r (bounds_of t)) ts
