-- What is left to answer of `add_points`.
use Rattle.xdb_ext.proofs.OpLaws.{point_behind, written_more}
use Rattle.xdb_ext.proofs.table.add_points.Goals as goal

pub add_point-requires : goal.add_point-requires
add_point-requires c = λ p is.
    rw c.loop-op.invariant (point_behind c.args.ops.now c.loop-op.op-index c.op-item.result p c.requires.order c.loop-op-test.true c.op-item.is is)

pub loop-op-preserved : goal.loop-op-preserved
loop-op-preserved c = written_more c.args.ops.now c.loop-op.op-index c.op-item.result c.loop-op.writer _ c.loop-op-test.true c.op-item.is c.loop-op.invariant c.in_ok-add_point.ensures
