-- The levels so far are free.
use Rattle.std.proofs.Common.{◌≡◌, ◌+◌, drop}
use Rattle.xdb_edit.specs.Plans.{free_levels}
use Rattle.xdb_pick.proofs.placing.free_levels.Given as goal

abbrev pub invariant-loop-level : goal.invariant-loop-level
invariant-loop-level l = free_levels l.v l.bounds ≡ l.level + free_levels (drop l.level l.v) l.bounds
