-- One more table is in the hull where it meets the range.
use Rattle.std.proofs.Common.{Some, sym, ap, ap₂, ◌∙◌}
use Rattle.xdb_key.specs.Bounds.{meets}
use Rattle.xdb_pick.specs.Hulls.{hull_with}
use Rattle.xdb_pick.proofs.WalkLaws.{hull_next, hull_same}
use Rattle.xdb_pick.proofs.growing.hull_over.Goals as goal
use Rattle.xdb_pick.proofs.growing.hull_over.Goals.{then-meets, else-meets}

pub loop-table-preserved : goal.loop-table-preserved
loop-table-preserved c =
    let ts = c.args.tables.now in
    let r = c.args.range.now in
    let i = c.loop-table.table-index in
    let t = c.table-item.result in
    let met = c.meets.ensures ∙ ap (meets r) c.range-bounds.ensures in
    elim c.if-meets.branch [
      | then-meets w ↦ w.hull-is ∙ ap Some (w.with.ensures ∙ ap₂ hull_with c.loop-table.invariant c.range-bounds.ensures) ∙ hull_next r ts i t c.loop-table-test.true c.table-item.is (sym met ∙ w.if-meets.true)
      | else-meets w ↦ w.hull-is ∙ c.loop-table.invariant ∙ hull_same r ts i t c.loop-table-test.true c.table-item.is (sym met ∙ w.if-meets.false)
    ]
