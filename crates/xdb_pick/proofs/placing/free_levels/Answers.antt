-- One level more is free, or isn't.
use Rattle.std.proofs.Common.{sym, ◌∙◌, arith}
use Rattle.xdb_pick.proofs.WalkLaws.{level_free, level_met}
use Rattle.xdb_pick.proofs.placing.free_levels.Goals as goal

pub returns-then-is_met : goal.returns-then-is_met
returns-then-is_met c =
    let count = c.count-levels.ensures.levels.count in
    level_met c.args.v.now c.args.bounds.now c.loop-level.level (omega arith) (sym c.is_met.ensures ∙ c.if-is_met.true) c.loop-level.invariant

pub loop-level-preserved : goal.loop-level-preserved
loop-level-preserved c =
    let count = c.count-levels.ensures.levels.count in
    level_free c.args.v.now c.args.bounds.now c.loop-level.level (omega arith) (sym c.is_met.ensures ∙ c.if-is_met.false) c.loop-level.invariant
