-- The first tables begin before they end.
use Rattle.std.proofs.Common.{◌≡◌, take, true}
use Rattle.std.specs.List.{list_all}
use Rattle.xdb_edit.specs.Versions.{has_range}
use Rattle.xdb_levels.proofs.applying.have_ranges.Given as goal

abbrev pub invariant-loop-table : goal.invariant-loop-table
invariant-loop-table l = list_all (λ a. has_range a.1) (take l.table-index l.added) ≡ true
