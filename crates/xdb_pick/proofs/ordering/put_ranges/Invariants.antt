-- The bounds of the first tables are put.
use Rattle.std.proofs.Common.{◌≡◌, ◌++◌, map, take}
use Rattle.xdb_meta.specs.Table.{bounds_of}
use Rattle.xdb_pick.specs.Hulls.{lent}
use Rattle.xdb_pick.proofs.ordering.put_ranges.Given as goal

abbrev pub invariant-loop-table : goal.invariant-loop-table
invariant-loop-table l = lent l.out.items ≡ lent l.initial.out.items ++ map bounds_of (take l.table-index l.tables)
