-- The first tables are written.
use Rattle.std.proofs.Common.{◌≡◌, ◌++◌, take, All}
use Rattle.std.specs.List.{flat_map}
use Rattle.xdb_meta.specs.Table.{IsTable}
use Rattle.xdb_edit.specs.declared.record.Record.TheVariants.{Added}
use Rattle.xdb_edit.specs.Spelling.{record_bytes}
use Rattle.xdb_edit.proofs.edit.put_all_added.Given as goal

abbrev pub invariant-loop-level : goal.invariant-loop-level
invariant-loop-level l = record {
  written : l.out.items ≡ l.initial.out.items ++ flat_map (λ p. record_bytes (Added p.0 p.1)) (take l.level-index l.added);
  tables : All (λ p. IsTable p.1) (take l.level-index l.added);
}
