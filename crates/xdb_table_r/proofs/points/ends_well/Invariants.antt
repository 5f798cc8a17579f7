use Rattle.std.proofs.Common.{◌≡◌, take}
use Rattle.xdb_block.specs.Kept.{draft}
use Rattle.xdb_table_r.proofs.points.ends_well.Given as goal

abbrev pub invariant-loop-i : goal.invariant-loop-i
invariant-loop-i l = l.written ≡ draft 16 (take l.i l.block)
