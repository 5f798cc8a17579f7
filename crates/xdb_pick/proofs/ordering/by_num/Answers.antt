-- One stable sort of the last first puts them as one by one.
use Rattle.std.proofs.Common.{◌≡◌, ◌++◌, List, [], reverse, Bor, refl, sym, ap, subst, ◌∙◌, rules}
use Rattle.std.specs.List.Sorted.{IsStableBy}
use Rattle.std.specs.Ordering.{is_lt}
use Rattle.std.proofs.lemmas.Fn.{always_returns_same}
use Rattle.std.proofs.lemmas.List.{append-nil}
use Rattle.std.proofs.lemmas.List.Sorted.{ranks_by}
use Rattle.xdb_meta.specs.Table.{Table}
use Rattle.xdb_lists.proofs.StableLaws.{put_all_in-sorted}
use Rattle.xdb_pick.specs.Hulls.{lent}
use Rattle.xdb_pick.proofs.OrderingLaws.{lent_num_cmp, lent_num_cmp-total, lent-by_num}
use Rattle.xdb_pick.proofs.ordering.by_num.Goals as goal

pub returns : goal.returns
returns c =
    let tables = c.args.tables.items in
    let made = c.sort_by.new.self.items in
    let total = lent_num_cmp-total in
    let input : c.reverse.new.self.items ≡ reverse tables ++ [] = c.reverse.ensures.items ∙ sym (append-nil (reverse tables)) in
    let by = always_returns_same _ (λ a r. is_lt r ≡ is_lt (lent_num_cmp a.0.now a.1.0.now)) _ (λ a r f' k. search rules) in
    let ranks = ranks_by total (λ (t : Bor Table). t) in
    ap lent (put_all_in-sorted total tables [] made refl
    (c.in_ok-sort_by.ensures.sorted (λ a b. is_lt (lent_num_cmp a b)) ranks by)
    (subst (λ (xs : List (Bor Table)). IsStableBy (λ a b. is_lt (lent_num_cmp a b)) xs made) input (c.in_ok-sort_by.ensures.stable (λ a b. is_lt (lent_num_cmp a b)) ranks by)))
    ∙ lent-by_num tables
