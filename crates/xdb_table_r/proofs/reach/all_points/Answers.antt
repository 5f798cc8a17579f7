use Rattle.std.proofs.Common.{[], arith}
use Rattle.xdb_table_r.specs.Reaches.{point_reach}
use Rattle.xdb_table_r.proofs.ReachLaws.{extent_pushed}
use Rattle.xdb_table_r.proofs.reach.all_points.Goals as goal

pub loop-point-preserved : goal.loop-point-preserved
loop-point-preserved c = extent_pushed point_reach c.args.points.now c.loop-point.point-index c.point-item.result [] c.loop-point.so_far c.in_ok-one.one c.widened.result (omega arith) (cc) c.in_ok-one.ensures c.widened.ensures c.loop-point.invariant
