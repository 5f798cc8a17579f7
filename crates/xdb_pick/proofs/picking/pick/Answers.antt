-- A level without a plan leaves it to those behind it.
use Rattle.std.proofs.Common.{sym, ◌∙◌, arith}
use Rattle.xdb_pick.proofs.WalkLaws.{pick-next}
use Rattle.xdb_pick.proofs.picking.pick.Goals as goal

pub loop-level-preserved : goal.loop-level-preserved
loop-level-preserved c =
    let count = c.count-level-end.ensures.levels.count in
    pick-next c.args.v.now c.args.running.now c.loop-level.level count (omega arith) (sym c.in_ok-plan.ensures ∙ c.in_default.is) c.loop-level.invariant
