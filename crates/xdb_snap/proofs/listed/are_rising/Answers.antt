-- At the end one range at the most is left.
use Rattle.std.proofs.Common.{arith}
use Rattle.xdb_snap.proofs.ListedLaws.{rises-at_end}
use Rattle.xdb_snap.proofs.listed.are_rising.Goals as goal

pub returns : goal.returns
returns c =
    let some = c.loop-at.auto.at in
    let end = c.loop-at-test.false in
    rises-at_end c.args.ranges.now c.loop-at.at (omega arith) (omega arith) c.loop-at.invariant
