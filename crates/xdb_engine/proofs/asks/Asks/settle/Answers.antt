-- The question at the place is the one that is found; it is taken out where its result is kept.
use Rattle.std.proofs.Common.{sym, ap, ◌∙◌, subst}
use Rattle.std.specs.Option.{is_some}
use Rattle.xdb_engine.specs.Questions.{AreAsks}
use Rattle.xdb_engine.proofs.AskLaws.{same-place, removed-asks, settled-early, settled-answered}
use Rattle.xdb_engine.proofs.asks.Asks.settle.Goals as goal

pub returns-then-not-is_kept : goal.returns-then-not-is_kept
returns-then-not-is_kept g c =
    let place = rw (c.deref.ensures.value, c.in-Some.is) at c.place.ensures in
    let e = c.early-then-not-is_kept.ensures in
    rw (← c.self.view_is) (record {
      settled = settled-early g.F.FileRef.bytes c.args.ask c.in-Some.at c.self.inside.questions.items c.index.result.now c.self.invariant place (sym c.index.ensures) c.early-then-not-is_kept.result (sym c.is_kept.ensures.kept ∙ c.if-not-is_kept.true) e.act e.noted e.told e.hold;
      asks = c.self.invariant;
    })

pub invariant_of-self : goal.invariant_of-self
invariant_of-self g c =
    let place = rw (c.deref.ensures.value, c.in-Some.is) at c.place.ensures in
    subst (AreAsks g.F.FileRef.bytes) (sym c.remove.ensures.items) (removed-asks g.F.FileRef.bytes c.args.ask c.in-Some.at c.self.inside.questions.items c.remove.result c.self.invariant place (sym c.remove.ensures.value))

pub returns-clause-settled : goal.returns-clause-settled
returns-clause-settled g c =
    let place = rw (c.deref.ensures.value, c.in-Some.is) at c.place.ensures in
    let items = c.self.inside.questions.items in
    let same = same-place g.F.FileRef.bytes c.args.ask c.in-Some.at items c.remove.result c.self.invariant place (sym c.remove.ensures.value) c.index.result.now (sym c.index.ensures) in
    let e = c.into_answer.ensures in
    rw (← c.self.view_is, c.remove.ensures.items) (settled-answered g.F.FileRef.bytes c.args.ask c.in-Some.at items c.remove.result c.self.invariant place (sym c.remove.ensures.value) c.into_answer.result (ap (λ x. is_some x.kept) (sym same) ∙ sym c.is_kept.ensures.kept ∙ c.if-not-is_kept.false) e.act e.noted e.told e.hold)
