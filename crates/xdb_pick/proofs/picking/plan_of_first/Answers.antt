-- The tables in turn are tables of the level.
use Rattle.std.proofs.Common.{sym, ap, subst, ◌∙◌}
use Rattle.xdb_pick.specs.Hulls.{lent}
use Rattle.xdb_pick.specs.Trying.{AreTablesOf}
use Rattle.xdb_pick.proofs.WalkLaws.{turn-tables}
use Rattle.xdb_pick.proofs.picking.plan_of_first.Goals as goal

pub first_plan-requires-clause-tables : goal.first_plan-requires-clause-tables
first_plan-requires-clause-tables c =
    let same = ap lent c.deref.ensures.value ∙ c.in_ok-in_turn.ensures in
    subst (AreTablesOf c.args.v.now c.args.level) (sym same) (turn-tables c.args.v.now c.args.level)
