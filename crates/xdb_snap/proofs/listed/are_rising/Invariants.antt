-- The rest rises just where all do.
use Rattle.std.proofs.Common.{◌≡◌, ◌-◌, drop}
use Rattle.xdb_plain.specs.Snapshots.{are_rising}
use Rattle.xdb_snap.proofs.listed.are_rising.Given as goal

abbrev pub invariant-loop-at : goal.invariant-loop-at
invariant-loop-at l = are_rising (drop (l.at - 1) l.ranges) ≡ are_rising l.ranges
