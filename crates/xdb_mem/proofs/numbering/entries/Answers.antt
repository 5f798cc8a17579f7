-- What is left to answer of `entries`.
use Rattle.std.proofs.Common.{arith}
use Rattle.xdb_mem.proofs.NumberLaws.{points_more}
use Rattle.xdb_mem.proofs.numbering.entries.Goals as goal

pub loop-op-preserved : goal.loop-op-preserved
loop-op-preserved c = record {
  made = points_more c.args.first c.args.ops.now c.loop-op.op-index c.op-item.result c.loop-op.out.items _ c.loop-op.seq c.loop-op-test.true c.op-item.is c.loop-op.invariant.made c.loop-op.invariant.number c.in_ok-add_entry.ensures;
  number = omega arith;
}
