-- The tables so far have no plan; what is shut is so.
use Rattle.std.proofs.Common.{◌≡◌, drop}
use Rattle.xdb_edit.specs.Plans.{plan_of_first}
use Rattle.xdb_pick.specs.Hulls.{lent}
use Rattle.xdb_pick.specs.Trying.{AreShut}
use Rattle.xdb_pick.proofs.picking.first_plan.Given as goal

abbrev pub invariant-loop-table : goal.invariant-loop-table
invariant-loop-table l = record {
  shut : AreShut l.v l.running l.level l.shut.items;
  rest : plan_of_first l.v l.running l.level (drop l.table-index (lent l.tables)) ≡ plan_of_first l.v l.running l.level (lent l.tables);
}
