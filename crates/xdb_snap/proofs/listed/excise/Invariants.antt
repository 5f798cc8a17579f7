-- The first ones are as the load leaves them.
use Rattle.std.proofs.Common.{◌≡◌, ◌++◌, map, take, drop}
use Rattle.xdb_snap.specs.Changes.{excised}
use Rattle.xdb_snap.proofs.listed.excise.Given as goal

abbrev pub invariant-loop-snap : goal.invariant-loop-snap
invariant-loop-snap g l = l.snap-items ≡ map (excised l.load l.span) (take l.snap-index l.initial.snap-items) ++ drop l.snap-index l.initial.snap-items
