-- The names of the first tables are printed.
use Rattle.std.proofs.Common.{◌≡◌, ◌++◌, map, take}
use Rattle.xdb_plain.specs.Printed.{spaced}
use Rattle.xdb_text.proofs.commands.push_names.Given as goal

abbrev pub invariant-loop-table : goal.invariant-loop-table
invariant-loop-table l = l.out.items ≡ l.fn.out.items ++ spaced (map (λ t. t.name) (take l.table-index l.tables))
