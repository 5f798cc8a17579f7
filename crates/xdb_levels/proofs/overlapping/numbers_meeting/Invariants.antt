-- The first tables are tried.
use Rattle.std.proofs.Common.{◌≡◌, take}
use Rattle.xdb_edit.specs.Plans.{meeting}
use Rattle.xdb_levels.specs.Levels.{numbers}
use Rattle.xdb_levels.proofs.overlapping.numbers_meeting.Given as goal

abbrev pub invariant-loop-table : goal.invariant-loop-table
invariant-loop-table l = l.found.items ≡ numbers (meeting l.range (take l.table-index l.tables))
