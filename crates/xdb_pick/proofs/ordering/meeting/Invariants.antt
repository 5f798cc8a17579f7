-- The first tables are tried.
use Rattle.std.proofs.Common.{◌≡◌, take}
use Rattle.xdb_edit.specs.Plans.{meeting}
use Rattle.xdb_pick.specs.Hulls.{lent}
use Rattle.xdb_pick.proofs.ordering.meeting.Given as goal

abbrev pub invariant-loop-table : goal.invariant-loop-table
invariant-loop-table l = lent l.found.items ≡ meeting l.range (take l.table-index l.tables)
