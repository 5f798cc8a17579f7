-- The first tables are named.
use Rattle.std.proofs.Common.{◌≡◌, ◌++◌, map, take}
use Rattle.xdb_pick.specs.Hulls.{lent_name}
use Rattle.xdb_pick.proofs.planning.put_names.Given as goal

abbrev pub invariant-loop-table : goal.invariant-loop-table
invariant-loop-table l = l.out.items ≡ l.initial.out.items ++ map (lent_name l.level) (take l.table-index l.tables)
