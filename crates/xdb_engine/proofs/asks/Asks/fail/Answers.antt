-- The question at the place is taken out.
use Rattle.std.proofs.Common.{Some, sym, ap, ◌∙◌, subst}
use Rattle.xdb_engine.specs.Ends.{failure, failure_hold, failure_leaves}
use Rattle.xdb_engine.specs.Questions.{AreAsks}
use Rattle.xdb_engine.proofs.AskLaws.{place-is, removed-is, removed-asks}
use Rattle.xdb_engine.proofs.asks.Asks.fail.Goals as goal

pub returns-clause-told : goal.returns-clause-told
returns-clause-told g c =
    let place = rw (c.deref.ensures.value, c.in-Some.is) at c.place.ensures in
    let there = place-is g.F.FileRef.bytes c.args.ask c.in-Some.at c.self.inside.questions.items c.remove.result c.self.invariant place (sym c.remove.ensures.value) in
    rw (← c.self.view_is) (c.into_failure.ensures.told ∙ ap failure (sym there))

pub returns-clause-hold : goal.returns-clause-hold
returns-clause-hold g c =
    let place = rw (c.deref.ensures.value, c.in-Some.is) at c.place.ensures in
    let there = place-is g.F.FileRef.bytes c.args.ask c.in-Some.at c.self.inside.questions.items c.remove.result c.self.invariant place (sym c.remove.ensures.value) in
    rw (← c.self.view_is) (ap Some c.into_failure.ensures.hold ∙ ap failure_hold (sym there))

pub returns-clause-leaves : goal.returns-clause-leaves
returns-clause-leaves g c =
    let place = rw (c.deref.ensures.value, c.in-Some.is) at c.place.ensures in
    let items = c.self.inside.questions.items in
    let there = place-is g.F.FileRef.bytes c.args.ask c.in-Some.at items c.remove.result c.self.invariant place (sym c.remove.ensures.value) in
    let left = removed-is g.F.FileRef.bytes c.args.ask c.in-Some.at items c.remove.result c.self.invariant place (sym c.remove.ensures.value) in
    rw (← c.self.view_is) (c.remove.ensures.items ∙ left ∙ ap (λ o. failure_leaves o items) (sym there))

pub invariant_of-self : goal.invariant_of-self
invariant_of-self g c =
    let place = rw (c.deref.ensures.value, c.in-Some.is) at c.place.ensures in
    subst (AreAsks g.F.FileRef.bytes) (sym c.remove.ensures.items) (removed-asks g.F.FileRef.bytes c.args.ask c.in-Some.at c.self.inside.questions.items c.remove.result c.self.invariant place (sym c.remove.ensures.value))
