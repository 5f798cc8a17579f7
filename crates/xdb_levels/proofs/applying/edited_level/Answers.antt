-- One stable sort gives the level after the edit.
use Rattle.std.proofs.Common.{◌≡◌, ◌++◌, filter, not, reverse, ap₂, subst, ◌∙◌, rules, List}
use Rattle.std.specs.List.Sorted.{IsStableBy}
use Rattle.std.specs.Ordering.{is_lt}
use Rattle.std.proofs.lemmas.Fn.{always_returns_same}
use Rattle.std.proofs.lemmas.List.Sorted.{ranks_by}
use Rattle.xdb_meta.specs.Table.{Table}
use Rattle.xdb_edit.specs.Versions.{table_cmp, removes, added_to}
use Rattle.xdb_levels.specs.Names.{is_named}
use Rattle.xdb_edit.proofs.VersionLaws.{table_cmp-total}
use Rattle.xdb_lists.proofs.SortedLaws.{sorted_filter}
use Rattle.xdb_lists.proofs.StableLaws.{put_all_in-sorted}
use Rattle.xdb_levels.proofs.applying.edited_level.Goals as goal

pub returns : goal.returns
returns c =
    let e = c.args.edit.now in
    let level = c.args.level in
    let ts = c.args.tables.now in
    let total = table_cmp-total level in
    let stays : Table → _ = λ t. not (removes e level t) in
    let same : filter (λ t. not (is_named c.args.gone.now level t.num)) ts ≡ filter stays ts = λ i. filter (λ (t : Table). not (c.requires.gone level t.num i)) ts in
    let input : c.put_staying.new.out.items ≡ reverse (added_to e level) ++ filter stays ts = c.in_ok-put_staying.ensures ∙ ap₂ ◌++◌ c.in_ok-made.ensures same in
    let by = always_returns_same _ (λ a r. is_lt r ≡ is_lt (table_cmp level a.0.now a.1.0.now)) _ (λ a r f' k. search rules) in
    let ranks = ranks_by total (λ (t : Table). t) in
    c.new.ensures
    ∙ put_all_in-sorted total (added_to e level) (filter stays ts) c.sort_by.new.self.items (sorted_filter (table_cmp level) stays ts c.requires.sorted)
    (c.in_ok-sort_by.ensures.sorted (λ a b. is_lt (table_cmp level a b)) ranks by)
    (subst (λ (xs : List Table). IsStableBy (λ a b. is_lt (table_cmp level a b)) xs c.sort_by.new.self.items) input (c.in_ok-sort_by.ensures.stable (λ a b. is_lt (table_cmp level a b)) ranks by))
