use Rattle.std.proofs.Common.{◌≡◌, ◌-◌, ◌≤◌}
use Rattle.xdb_device.specs.Counted.{Counted}
use Rattle.xdb_device.specs.Files.{AddsFrom}
use Rattle.xdb_device.specs.Streams.{Grew}
use Rattle.xdb_device.proofs.whole.read_whole.Given as goal

abbrev pub invariant-loop-off : goal.invariant-loop-off
invariant-loop-off g l =
    (l.off ≤ l.end)
    × Counted g.R.Reader.faults g.R.Reader.misses g.R.Reader.frame l.initial.reader l.reader ⊥
    × (g.R.Reader.told l.reader ≡ g.R.Reader.told l.initial.reader)
    × Grew l.off l.initial.out.items l.out.items
    × AddsFrom (g.R.File.FileRef.bytes l.file) 0 l.off l.initial.out.items l.out.items

abbrev pub decreases-loop-off : goal.decreases-loop-off
decreases-loop-off g l = l.end - l.off
