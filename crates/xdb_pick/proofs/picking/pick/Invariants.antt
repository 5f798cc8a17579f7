-- What the levels that are left give is what all give.
use Rattle.std.proofs.Common.{◌≡◌, take, drop}
use Rattle.xdb_edit.specs.Plans.{pick_from, pick}
use Rattle.xdb_pick.proofs.picking.pick.Given as goal

abbrev pub invariant-loop-level : goal.invariant-loop-level
invariant-loop-level l = pick_from l.v l.running l.level (drop l.level (take 6 l.v)) ≡ pick l.v l.running
