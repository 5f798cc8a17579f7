-- What is left to answer of `spans`.
use Rattle.xdb_ext.proofs.OpLaws.{spans_more}
use Rattle.xdb_ext.proofs.table.spans.Goals as goal

pub loop-op-preserved : goal.loop-op-preserved
loop-op-preserved c = record {
  made = spans_more c.args.ops.now c.loop-op.op-index c.op-item.result c.loop-op.out.items _ c.loop-op-test.true c.op-item.is c.loop-op.invariant.made c.in_ok-add_span.ensures.added;
  ordered = c.in_ok-add_span.ensures.ordered c.loop-op.invariant.ordered;
}
