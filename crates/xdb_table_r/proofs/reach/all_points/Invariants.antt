use Rattle.std.proofs.Common.{map, take}
use Rattle.xdb_table_r.specs.Reaches.{point_reach, IsExtentOf}
use Rattle.xdb_table_r.proofs.reach.all_points.Given as goal

abbrev pub invariant-loop-point : goal.invariant-loop-point
invariant-loop-point l = IsExtentOf (map point_reach (take l.point-index l.points)) l.so_far
