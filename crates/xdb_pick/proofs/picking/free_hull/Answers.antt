-- A table that a running compaction meets, or that lies in a hull that one meets, has no plan.
use Rattle.std.proofs.Common.{◌≡◌, true, sym, ap, subst, ◌∙◌}
use Rattle.std.specs.List.{list_any}
use Rattle.xdb_key.specs.Bounds.{Bounds, meets}
use Rattle.xdb_key.specs.Order.{is_below}
use Rattle.xdb_pick.specs.Hulls.{plan_hull}
use Rattle.xdb_pick.specs.Trying.{AreShut}
use Rattle.xdb_pick.proofs.ShutLaws.{table-met, table-shut, hull-shut, shut-pushed}
use Rattle.xdb_pick.proofs.picking.free_hull.Goals as goal
use Rattle.xdb_pick.proofs.picking.free_hull.Goals.{then-meets_one-via-then-meets_one, then-meets_one-via-else-meets_one+then-meets_one-2}

pub returns-then-meets_one-clause-plan : goal.returns-then-meets_one-clause-plan
returns-then-meets_one-clause-plan c =
    let v = c.args.v.now in
    let running = c.args.running.now in
    let range = subst (λ (o : Bounds). is_below o.lo o.hi ≡ true) c.range-range.ensures c.lo.ensures.ordered in
    elim c.then-meets_one.branch [
      | then-meets_one-via-then-meets_one w ↦
          sym (table-met v running c.args.level c.args.table.now c.requires.level c.requires.table range
          (subst (λ (o : Bounds). list_any (meets o) running ≡ true) c.range-range.ensures (sym c.meets_one.ensures ∙ w.if-meets_one.true)))
      | then-meets_one-via-else-meets_one+then-meets_one-2 w ↦
          sym (table-shut v running c.args.level c.args.table.now c.args.shut.now.items c.requires.level c.requires.table range c.requires.shut
          (subst (λ (o : Bounds). list_any (meets o) c.args.shut.now.items ≡ true) c.range-range.ensures
          (sym (w.meets_one-else-meets_one.ensures ∙ ap (list_any (meets c.range-range.result.now)) w.deref.ensures.value) ∙ w.if-meets_one-2.true)))
    ]

pub returns-clause-shut : goal.returns-clause-shut
returns-clause-shut c =
    let v = c.args.v.now in
    let running = c.args.running.now in
    let hull = c.in-Some.hull in
    let is = sym (ap (plan_hull v c.args.level) c.range-range.ensures) ∙ sym c.in_ok-hull.ensures ∙ c.in-Some.is in
    let met = sym c.meets_one-2.ensures ∙ c.if-not-meets_one.false in
    subst (AreShut v running c.args.level) (sym c.in_ok-push.ensures.items)
    (shut-pushed v running c.args.level c.args.shut.now.items hull c.requires.shut (hull-shut v running c.args.level c.args.table.now hull c.requires.table is met))
