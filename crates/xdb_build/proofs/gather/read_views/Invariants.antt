-- The views so far are read.
use Rattle.std.proofs.Common.{◌≡◌}
use Rattle.xdb_device.specs.Counted.{Counted}
use Rattle.xdb_build.specs.Gathering.{AreReadOf}
use Rattle.xdb_build.proofs.gather.read_views.Given as goal

abbrev pub invariant-loop-view : goal.invariant-loop-view
invariant-loop-view g l =
    Counted g.R.Reader.faults g.R.Reader.misses g.R.Reader.frame l.initial.dev l.dev ⊥
    × (g.R.Reader.told l.dev ≡ g.R.Reader.told l.initial.dev)
    × AreReadOf g.F.FileRef.bytes l.yielded l.entries.items l.spans.items
