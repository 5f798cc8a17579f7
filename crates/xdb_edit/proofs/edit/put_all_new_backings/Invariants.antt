-- The first new files are written.
use Rattle.std.proofs.Common.{◌≡◌, ◌++◌, take}
use Rattle.std.specs.List.{flat_map}
use Rattle.xdb_edit.specs.declared.record.Record.TheVariants.{NewBacking}
use Rattle.xdb_edit.specs.Spelling.{record_bytes}
use Rattle.xdb_edit.proofs.edit.put_all_new_backings.Given as goal

abbrev pub invariant-loop-num : goal.invariant-loop-num
invariant-loop-num l = l.out.items ≡ l.initial.out.items ++ flat_map (λ num. record_bytes (NewBacking num)) (take l.num-index l.nums)
