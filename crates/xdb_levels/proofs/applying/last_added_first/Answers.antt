-- One more record is looked at.
use Rattle.std.proofs.Common.{ap, ◌∙◌}
use Rattle.xdb_levels.proofs.LevelLaws.{added_here, added_elsewhere}
use Rattle.xdb_levels.proofs.applying.last_added_first.Goals as goal
use Rattle.xdb_levels.proofs.applying.last_added_first.Goals.{then-at-level+in_ok-copy+in_ok-push, else-at-level}

pub loop-at-preserved : goal.loop-at-preserved
loop-at-preserved c =
    let adds = c.args.edit.now.added in
    let seen = c.added-at-items.result.now in
    let a = c.loop-at-item.result in
    elim c.if-at-level.branch [
      | then-at-level+in_ok-copy+in_ok-push w ↦ added_here c.args.level adds seen c.loop-at.at-index a c.loop-at.made.items c.if-at-level.made.items _ c.added-at-items.ensures c.loop-at-test.true c.loop-at-item.is c.loop-at.invariant w.if-at-level.true w.in_ok-copy.ensures (ap (λ v. v.items) w.made-is ∙ w.in_ok-push.ensures.items)
      | else-at-level w ↦ added_elsewhere c.args.level adds seen c.loop-at.at-index a c.loop-at.made.items c.if-at-level.made.items c.added-at-items.ensures c.loop-at-test.true c.loop-at-item.is c.loop-at.invariant w.if-at-level.false (ap (λ v. v.items) w.made-is)
    ]
