-- The marks of the first ones.
use Rattle.std.proofs.Common.{◌≡◌, take}
use Rattle.xdb_snap.specs.Pinned.{pinned_marks}
use Rattle.xdb_snap.proofs.listed.pinned_marks.Given as goal

abbrev pub invariant-loop-snap : goal.invariant-loop-snap
invariant-loop-snap g l = l.marks.items ≡ pinned_marks (take l.snap-index l.snaps)
