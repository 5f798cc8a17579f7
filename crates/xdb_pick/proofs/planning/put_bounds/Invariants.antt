-- The bounds of the first tables are copied.
use Rattle.std.proofs.Common.{◌≡◌, ◌++◌, map, take}
use Rattle.xdb_meta.specs.Table.{bounds_of}
use Rattle.xdb_pick.proofs.planning.put_bounds.Given as goal

abbrev pub invariant-loop-table : goal.invariant-loop-table
invariant-loop-table l = l.out.items ≡ l.initial.out.items ++ map bounds_of (take l.table-index l.tables)
