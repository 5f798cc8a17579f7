use Rattle.std.proofs.Common.{◌≡◌, ◌++◌, take}
use Rattle.xdb_table_r.specs.Views.{range_of, points_in}
use Rattle.xdb_table_r.proofs.points.push_points.Given as goal

abbrev pub invariant-loop-i : goal.invariant-loop-i
invariant-loop-i l = l.out.items ≡ l.initial.out.items ++ points_in (range_of l.window) l.window.synthetic (take l.i l.block)
