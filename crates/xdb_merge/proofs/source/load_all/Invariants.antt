-- The first views are read.
use Rattle.std.proofs.Common.{◌≡◌}
use Rattle.xdb_device.specs.Counted.{Counted}
use Rattle.xdb_merge.specs.Steps.{AreRead}
use Rattle.xdb_merge.proofs.LoadLaws.{LoadsSoFar}
use Rattle.xdb_merge.proofs.source.load_all.Given as goal

abbrev pub invariant-loop-source : goal.invariant-loop-source
invariant-loop-source g l =
    Counted g.R.Reader.faults g.R.Reader.misses g.R.Reader.frame l.initial.dev l.dev ⊥
    × (g.R.Reader.told l.dev ≡ g.R.Reader.told l.initial.dev)
    × (AreRead l.fn.sources.items → l.dev ≡ l.initial.dev)
    × LoadsSoFar g.F.FileRef.bytes l.fn.sources.items l.source-items l.source-index
