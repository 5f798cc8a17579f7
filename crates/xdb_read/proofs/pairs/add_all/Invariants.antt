-- The cursor is on its way.
use Rattle.std.proofs.Common.{◌≡◌, []}
use Rattle.xdb_device.specs.Counted.{Counted}
use Rattle.xdb_merge.specs.Tables.{tables_in}
use Rattle.xdb_read.proofs.OnWayLaws.{IsOnWay}
use Rattle.xdb_read.proofs.pairs.add_all.Given as goal

abbrev pub invariant-loop : goal.invariant-loop
invariant-loop g l =
    Counted g.R.Reader.faults g.R.Reader.misses g.R.Reader.frame l.fn.dev l.dev ⊥
    × (g.R.Reader.told l.dev ≡ g.R.Reader.told l.fn.dev)
    × (tables_in l.fn.pairs.bounds l.parts.tables ≡ [] → l.dev ≡ l.fn.dev)
    × IsOnWay g.F.FileRef.bytes l.parts l.fn.pairs.bounds l.way l.pairs l.found.items l.counter
