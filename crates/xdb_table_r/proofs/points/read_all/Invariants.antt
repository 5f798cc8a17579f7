use Rattle.std.proofs.Common.{◌≡◌}
use Rattle.xdb_device.specs.Counted.{Counted}
use Rattle.xdb_table_r.specs.Views.{range_of}
use Rattle.xdb_table_r.proofs.GoneLaws.{Gone}
use Rattle.xdb_table_r.proofs.points.read_all.Given as goal

abbrev pub invariant-loop-i : goal.invariant-loop-i
invariant-loop-i g l =
    Counted g.R.Reader.faults g.R.Reader.misses g.R.Reader.frame l.initial.dev l.dev ⊥
    × (g.R.Reader.told l.dev ≡ g.R.Reader.told l.initial.dev)
    × Gone (g.R.File.FileRef.bytes l.file) (range_of l.window) l.window.synthetic l.index l.i l.out.items
