-- The sort puts the bounds of all tables in order.
use Rattle.std.proofs.Common.{◌≡◌, ◌++◌, ◌+◌, suc, List, map, Bor, sym, ap, ap₂, subst, ◌∙◌, rules, arith}
use Rattle.std.specs.List.Sorted.{IsPermutation}
use Rattle.std.specs.Ordering.{is_lt}
use Rattle.std.proofs.lemmas.Fn.{always_returns_same}
use Rattle.std.proofs.lemmas.List.{map-append}
use Rattle.std.proofs.lemmas.List.Sorted.{ranks_by, IsPermutation-map}
use Rattle.xdb_key.specs.Bounds.{Bounds}
use Rattle.xdb_meta.specs.Table.{bounds_of}
use Rattle.xdb_edit.specs.Versions.{tables_of}
use Rattle.xdb_lists.proofs.StableLaws.{sorted_by_sort}
use Rattle.xdb_pick.specs.Hulls.{both, lent}
use Rattle.xdb_pick.proofs.OrderingLaws.{lent_start_cmp, lent_start_cmp-total, lent-sorted}
use Rattle.xdb_pick.proofs.ordering.by_start.Goals as goal

pub returns-clause-sorted : goal.returns-clause-sorted
returns-clause-sorted c =
    let total = lent_start_cmp-total in
    let by = always_returns_same _ (λ a r. is_lt r ≡ is_lt (lent_start_cmp a.0.now a.1.0.now)) _ (λ a r f' k. search rules) in
    lent-sorted c.sort_by.new.self.items (sorted_by_sort total c.sort_by.new.self.items (c.in_ok-sort_by.ensures.sorted (λ a b. is_lt (lent_start_cmp a b)) (ranks_by total (λ (r : Bor Bounds). r)) by))

pub returns-clause-all : goal.returns-clause-all
returns-clause-all c =
    let v = c.args.v.now in
    let level = c.args.level in
    let next : level + 1 ≡ suc level = omega arith in
    let first = c.in_ok-put_ranges.ensures ∙ ap₂ (λ (xs : List (Bor Bounds)) ts. lent xs ++ map bounds_of ts) c.new-ranges.ensures.items c.tables.ensures.tables in
    let input : lent c.put_ranges-2.new.out.items ≡ map bounds_of (both v level) =
    c.in_ok-put_ranges-2.ensures
    ∙ ap₂ (λ xs ts. xs ++ map bounds_of ts) first (c.tables-2.ensures.tables ∙ ap (tables_of v) next)
    ∙ sym (map-append bounds_of (tables_of v level) (tables_of v (suc level))) in
    subst (λ (rs : List Bounds). IsPermutation rs (lent c.sort_by.new.self.items)) input
    (IsPermutation-map (λ (r : Bor Bounds). r.now) c.put_ranges-2.new.out.items c.sort_by.new.self.items c.sort_by.ensures.permutation)
