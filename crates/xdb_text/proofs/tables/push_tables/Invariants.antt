-- The first tables are printed.
use Rattle.std.proofs.Common.{◌≡◌, ◌++◌, map, take}
use Rattle.xdb_plain.specs.Printed.{spaced, table_word}
use Rattle.xdb_text.proofs.tables.push_tables.Given as goal

abbrev pub invariant-loop-table : goal.invariant-loop-table
invariant-loop-table l = l.out.items ≡ l.fn.out.items ++ spaced (map table_word (take l.table-index l.tables))
