-- Each turn looks farther.
use Rattle.std.proofs.Common.{◌≤◌, ◌-◌, length}
use Rattle.xdb_mem.proofs.sorted.reach.Given as goal

abbrev pub invariant-loop-reach : goal.invariant-loop-reach
invariant-loop-reach l = 16 ≤ l.reach

abbrev pub decreases-loop-reach : goal.decreases-loop-reach
decreases-loop-reach l = length l.entries - l.reach
