use Rattle.std.proofs.Common.{◌∙◌, map, Some, sym, ap, subst}
use Rattle.xdb_table_r.specs.Reaches.{point_reach, reaches, IsExtentOf}
use Rattle.xdb_table_r.proofs.reach.extent.Goals as goal

pub returns-in-None : goal.returns-in-None
returns-in-None c =
    let all = c.in_ok-all.ensures (map point_reach c.args.points.now) c.in_ok-so_far.ensures in
    subst (IsExtentOf (reaches c.args.points.now c.args.spans.now)) c.in-None.is all

pub returns-in-Some : goal.returns-in-Some
returns-in-Some c =
    let all = c.in_ok-all.ensures (map point_reach c.args.points.now) c.in_ok-so_far.ensures in
    subst (IsExtentOf (reaches c.args.points.now c.args.spans.now)) (c.in-Some.is ∙ ap Some (sym c.finished.ensures)) all
