-- The first tables are open.
use Rattle.std.proofs.Common.{◌≡◌, take}
use Rattle.xdb_device.specs.Counted.{Counted}
use Rattle.xdb_merge.specs.Tables.{AreViewsOf}
use Rattle.xdb_merge.proofs.tables.open_views.Given as goal

abbrev pub invariant-loop-meta : goal.invariant-loop-meta
invariant-loop-meta g l =
    Counted g.R.Reader.faults g.R.Reader.misses g.R.Reader.frame l.initial.dev l.dev ⊥
    × (g.R.Reader.told l.dev ≡ g.R.Reader.told l.initial.dev)
    × AreViewsOf g.F.FileRef.bytes (take l.meta-index l.tables) l.views.items
