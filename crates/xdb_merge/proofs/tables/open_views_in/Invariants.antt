-- The first tables of the range are open.
use Rattle.std.proofs.Common.{◌≡◌, take, []}
use Rattle.xdb_device.specs.Counted.{Counted}
use Rattle.xdb_merge.specs.Tables.{tables_in, AreViewsOf}
use Rattle.xdb_merge.proofs.tables.open_views_in.Given as goal

abbrev pub invariant-loop-meta : goal.invariant-loop-meta
invariant-loop-meta g l =
    Counted g.R.Reader.faults g.R.Reader.misses g.R.Reader.frame l.initial.dev l.dev ⊥
    × (g.R.Reader.told l.dev ≡ g.R.Reader.told l.initial.dev)
    × (tables_in l.range l.tables ≡ [] → l.dev ≡ l.initial.dev)
    × AreViewsOf g.F.FileRef.bytes (tables_in l.range (take l.meta-index l.tables)) l.views.items
