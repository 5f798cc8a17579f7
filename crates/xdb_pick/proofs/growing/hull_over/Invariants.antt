-- The hull is over the first tables.
use Rattle.std.proofs.Common.{◌≡◌, take}
use Rattle.xdb_edit.specs.Plans.{meeting}
use Rattle.xdb_pick.specs.Hulls.{hull_of}
use Rattle.xdb_pick.proofs.growing.hull_over.Given as goal

abbrev pub invariant-loop-table : goal.invariant-loop-table
invariant-loop-table l = l.hull ≡ hull_of (meeting l.range (take l.table-index l.tables))
