-- Each level is made at its place.
use Rattle.std.proofs.Common.{[], ap, sym, ◌∙◌, arith}
use Rattle.std.proofs.lemmas.List.{ext_get_or}
use Rattle.xdb_edit.specs.Versions.{table_cmp, is_sorted, edited}
use Rattle.xdb_levels.proofs.LevelLaws.{length-edited, edited_at, sorted_at}
use Rattle.xdb_levels.proofs.applying.edited.Goals as goal

pub edited_level-requires-clause-sorted : goal.edited_level-requires-clause-sorted
edited_level-requires-clause-sorted g c =
    ap (is_sorted (table_cmp c.loop-level.level)) c.list.ensures
    ∙ sorted_at 0 c.args.levels.now c.loop-level.level c.loop-level.level c.index-levels-level.result c.requires.sorted (omega arith) (omega arith)

pub returns : goal.returns
returns g c =
    let e = c.args.edit.now in
    let levels = c.args.levels.now in
    let long = length-edited 0 e levels in
    ext_get_or [] c.loop-level.made (edited levels e) (omega arith)
    (λ k l. c.loop-level.invariant.done k (omega arith) ∙ sym (edited_at 0 e levels k k [] (omega arith) (omega arith)))
