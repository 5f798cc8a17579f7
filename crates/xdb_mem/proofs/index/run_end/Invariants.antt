-- Each turn ends farther in front.
use Rattle.std.proofs.Common.{◌≤◌, length}
use Rattle.xdb_mem.proofs.index.run_end.Given as goal

abbrev pub invariant-loop-from : goal.invariant-loop-from
invariant-loop-from l = l.end ≤ length l.blocks

abbrev pub decreases-loop-from : goal.decreases-loop-from
decreases-loop-from l = l.end
