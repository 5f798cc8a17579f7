-- What the loop of `add_points` keeps.
use Rattle.std.proofs.Common.{◌≡◌, [], map, take}
use Rattle.xdb_table_w.specs.Content.{content, point_row}
use Rattle.xdb_ext.specs.Operations.{points_of}
use Rattle.xdb_ext.proofs.table.add_points.Given as goal

abbrev pub invariant-loop-op : goal.invariant-loop-op
invariant-loop-op l = l.writer ≡ content (map point_row (points_of (take l.op-index l.ops))) []
