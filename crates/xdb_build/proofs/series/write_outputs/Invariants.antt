-- An output begins, and it is known where it ends.
use Rattle.std.proofs.Common.{◌≡◌, ◌⊎◌, ◌+◌, ◌-◌, ◌<◌, length, nat_lt}
use Rattle.xdb_device.specs.Counted.{Counted}
use Rattle.xdb_build.specs.Series.{EndsFrom, BeginsAt}
use Rattle.xdb_build.proofs.series.write_outputs.Given as goal

abbrev pub invariant-loop-to : goal.invariant-loop-to
invariant-loop-to g l =
    BeginsAt g.D.File.FileRef.size g.D.File.FileRef.bytes l.given l.entries l.spans l.from l.num l.made (g.D.Reader.told l.initial.dev) (g.D.Reader.told l.dev)
    × EndsFrom l.entries l.from (nat_lt l.num l.last) l.to
    × ((l.from ≡ 0) ⊎ (l.from < length l.entries))
    × (l.last ≡ l.given.first + (l.given.count - 1))
    × Counted g.D.Reader.faults g.D.Reader.misses g.D.Reader.frame l.initial.dev l.dev ⊥

abbrev pub decreases-loop-to : goal.decreases-loop-to
decreases-loop-to g l = length l.entries - l.to
