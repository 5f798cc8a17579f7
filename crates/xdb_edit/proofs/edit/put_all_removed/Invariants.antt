-- The first removals are written.
use Rattle.std.proofs.Common.{◌≡◌, ◌++◌, take}
use Rattle.std.specs.List.{flat_map}
use Rattle.xdb_edit.specs.declared.record.Record.TheVariants.{Removed}
use Rattle.xdb_edit.specs.Spelling.{record_bytes}
use Rattle.xdb_edit.proofs.edit.put_all_removed.Given as goal

abbrev pub invariant-loop-level : goal.invariant-loop-level
invariant-loop-level l = l.out.items ≡ l.initial.out.items ++ flat_map (λ p. record_bytes (Removed p.0 p.1)) (take l.level-index l.removed)
