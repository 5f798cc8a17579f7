-- The layers of the memtables and of the views so far.
use Rattle.std.proofs.Common.{take}
use Rattle.xdb_merge.specs.Merge.{layers}
use Rattle.xdb_merge.specs.Sources.{AreAlike}
use Rattle.xdb_merge.proofs.source.layers.Given as goal

abbrev pub invariant-loop-source : goal.invariant-loop-source
invariant-loop-source g l = AreAlike l.made.items (layers l.mem (take l.source-index l.sources.items))
