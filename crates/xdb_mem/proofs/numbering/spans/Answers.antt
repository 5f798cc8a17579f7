-- What is left to answer of `spans`.
use Rattle.std.proofs.Common.{arith}
use Rattle.xdb_mem.proofs.NumberLaws.{spans_more}
use Rattle.xdb_mem.proofs.numbering.spans.Goals as goal

pub loop-op-preserved : goal.loop-op-preserved
loop-op-preserved c = record {
  made = spans_more c.args.first c.args.ops.now c.loop-op.op-index c.op-item.result c.loop-op.out.items _ c.loop-op.seq c.loop-op-test.true c.op-item.is c.loop-op.invariant.made c.loop-op.invariant.number c.in_ok-add_span.ensures;
  number = omega arith;
}
