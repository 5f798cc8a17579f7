-- What the ranges that are left make of the hull is what all make of the first.
use Rattle.std.proofs.Common.{◌≡◌, drop}
use Rattle.xdb_pick.specs.Hulls.{lent, swept}
use Rattle.xdb_pick.proofs.hull.Hull.swept.Given as goal

abbrev pub invariant-loop-range : goal.invariant-loop-range
invariant-loop-range l = swept l.hull (lent (drop l.range-index l.ranges)) ≡ swept l.initial.hull (lent l.ranges)
