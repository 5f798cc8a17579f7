use Rattle.std.proofs.Common.{◌≡◌, ◌-◌, ◌≤◌, [], length}
use Rattle.xdb_device.specs.Counted.{Counted}
use Rattle.xdb_device.specs.Files.{AddsFrom}
use Rattle.xdb_table_r.proofs.read.read_range.Given as goal

abbrev pub invariant-loop-at : goal.invariant-loop-at
invariant-loop-at g l =
    (l.from ≤ l.at) × (l.at ≤ l.to)
    × Counted g.R.Reader.faults g.R.Reader.misses g.R.Reader.frame l.initial.dev l.dev ⊥
    × (g.R.Reader.told l.dev ≡ g.R.Reader.told l.initial.dev)
    × (length l.out.items ≡ l.at - l.from)
    × AddsFrom (g.R.File.FileRef.bytes l.file) l.from (l.at - l.from) [] l.out.items

abbrev pub decreases-loop-at : goal.decreases-loop-at
decreases-loop-at g l = l.to - l.at
