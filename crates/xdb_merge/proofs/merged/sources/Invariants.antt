-- A cursor of each view so far.
use Rattle.std.proofs.Common.{◌≡◌, map}
use Rattle.xdb_merge.specs.Sources.{unread}
use Rattle.xdb_merge.proofs.merged.sources.Given as goal

abbrev pub invariant-loop-view : goal.invariant-loop-view
invariant-loop-view g l = l.sources.items ≡ map unread l.yielded
