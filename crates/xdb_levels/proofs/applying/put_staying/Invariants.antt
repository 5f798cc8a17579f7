-- What stays of the first tables is copied.
use Rattle.std.proofs.Common.{◌≡◌, ◌++◌, take, filter, not}
use Rattle.xdb_levels.specs.Names.{is_named}
use Rattle.xdb_levels.proofs.applying.put_staying.Given as goal

abbrev pub invariant-loop-table : goal.invariant-loop-table
invariant-loop-table l = l.out.items ≡ l.initial.out.items ++ filter (λ t. not (is_named l.gone l.level t.num)) (take l.table-index l.tables)
