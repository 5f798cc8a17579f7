use Rattle.std.proofs.Common.{◌≡◌, take}
use Rattle.xdb_table_r.specs.Opening.{tombstones}
use Rattle.xdb_table_r.proofs.spans.all_spans.Given as goal

abbrev pub invariant-loop-i : goal.invariant-loop-i
invariant-loop-i l = l.out.items ≡ tombstones (take l.i l.block)
