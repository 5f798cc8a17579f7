-- Orders of what references refer to.
use Rattle.std.proofs.Common.{◌≡◌, Bool, true, false, ◌&&◌, cond, List, [], ◌∷◌, ◌++◌, map, reverse, Bor, refl, sym, ap, ap₂, ◌∙◌}
use Rattle.std.specs.declared.cmp.Ordering.{Ordering}
use Rattle.std.specs.Ordering.{is_lt, is_le}
use Rattle.std.specs.Cmp.{IsTotalOrder, on_total, nat_cmp_total}
use Rattle.std.proofs.lemmas.List.Folds.{list_all-map}
use Rattle.std.proofs.lemmas.Grind.{reverse_onto}
use Rattle.xdb_key.proofs.OrderLaws.{key_total}
use Rattle.xdb_key.specs.Bounds.{Bounds}
use Rattle.xdb_meta.specs.Table.{Table}
use Rattle.xdb_lists.specs.Sorted.{is_sorted, put_in, put_all_in}
use Rattle.xdb_edit.specs.Plans.{num_cmp, by_num}
use Rattle.xdb_pick.specs.Hulls.{lent, start_cmp}

module _ {X Y : Type 0} (f : X → Y) (cmp : Y → Y → Ordering) where
  put_in-map : (x : X) (xs : List X) → map f (put_in (λ a b. cmp (f a) (f b)) x xs) ≡ put_in cmp (f x) (map f xs)
  put_in-map x [] = refl
  put_in-map x (u ∷ us) = by_case (is_lt (cmp (f u) (f x))) (put_in-map x us)
    where
      by_case : (b : Bool) → map f (put_in (λ a b. cmp (f a) (f b)) x us) ≡ put_in cmp (f x) (map f us) → map f (cond b (u ∷ put_in (λ a b. cmp (f a) (f b)) x us) (x ∷ u ∷ us)) ≡ cond b (f u ∷ put_in cmp (f x) (map f us)) (f x ∷ f u ∷ map f us)
      by_case true rest = ap (λ ys. f u ∷ ys) rest
      by_case false rest = refl

  pub put_all_in-map : (xs ts : List X) → map f (put_all_in (λ a b. cmp (f a) (f b)) xs ts) ≡ put_all_in cmp (map f xs) (map f ts)
  put_all_in-map [] ts = refl
  put_all_in-map (x ∷ xs) ts = put_all_in-map xs (put_in (λ a b. cmp (f a) (f b)) x ts) ∙ ap (put_all_in cmp (map f xs)) (put_in-map x ts)

  pub sorted-map : (xs : List X) → is_sorted (λ a b. cmp (f a) (f b)) xs ≡ is_sorted cmp (map f xs)
  sorted-map [] = refl
  sorted-map (x ∷ xs) = ap₂ ◌&&◌ (sym (list_all-map (λ u. is_le (cmp (f x) u)) f xs)) (sorted-map xs)

map-push : {X Y : Type 0} (f : X → Y) (xs : List X) (x : X) → map f (xs ++ x ∷ []) ≡ map f xs ++ f x ∷ []
map-push f [] x = refl
map-push f (u ∷ us) x = ap (λ ys. f u ∷ ys) (map-push f us x)

pub map-reverse : {X Y : Type 0} (f : X → Y) (xs : List X) → map f (reverse xs) ≡ reverse (map f xs)
map-reverse f [] = refl
map-reverse f (x ∷ xs) =
    ap (map f) (reverse_onto xs x []) ∙ map-push f (reverse xs) x ∙ ap (λ ys. ys ++ f x ∷ []) (map-reverse f xs) ∙ sym (reverse_onto (map f xs) (f x) [])

-- ---- the orders of tables and of ranges that are lent

abbrev pub lent_num_cmp : Bor Table → Bor Table → Ordering
lent_num_cmp a b = num_cmp a.now b.now

pub lent_num_cmp-total : IsTotalOrder lent_num_cmp
lent_num_cmp-total = on_total (λ (t : Bor Table). t.now.num) nat_cmp_total

abbrev pub lent_start_cmp : Bor Bounds → Bor Bounds → Ordering
lent_start_cmp a b = start_cmp a.now b.now

pub lent_start_cmp-total : IsTotalOrder lent_start_cmp
lent_start_cmp-total = on_total (λ (r : Bor Bounds). r.now.lo) key_total

pub lent-by_num : (tables : List (Bor Table)) → lent (put_all_in lent_num_cmp tables []) ≡ by_num (lent tables)
lent-by_num tables = put_all_in-map (λ (t : Bor Table). t.now) num_cmp tables []

pub lent-sorted : (ranges : List (Bor Bounds)) → is_sorted lent_start_cmp ranges ≡ true → is_sorted start_cmp (lent ranges) ≡ true
lent-sorted ranges h = sym (sorted-map (λ (r : Bor Bounds). r.now) start_cmp ranges) ∙ h
