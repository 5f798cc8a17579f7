-- The question at the place looks for its result.
use Rattle.std.proofs.Common.{sym}
use Rattle.xdb_engine.proofs.AskLaws.{set-asks, set-holds, set-plain, looks}
use Rattle.xdb_engine.proofs.asks.Asks.look.Goals as goal

pub invariant_of-self : goal.invariant_of-self
invariant_of-self g c =
    let place = rw (c.deref.ensures.value, c.in-Some.is) at c.place.ensures in
    let e = c.arrived.ensures in
    set-asks g.F.FileRef.bytes c.args.ask c.in-Some.at c.self.inside.questions.items c.index_mut-question.result.now c.self.invariant place (sym c.index_mut-question.ensures.value) c.arrived.new.self e.same e.fits

pub returns-clause-looks : goal.returns-clause-looks
returns-clause-looks g c =
    let place = rw (c.deref.ensures.value, c.in-Some.is) at c.place.ensures in
    let e = c.arrived.ensures in
    rw (← c.self.view_is) (looks g.F.FileRef.bytes c.args.ask c.in-Some.at c.self.inside.questions.items c.index_mut-question.result.now c.self.invariant place (sym c.index_mut-question.ensures.value) c.arrived.new.self e.same e.fits c.arrived.result e.look e.tells)

pub returns-clause-same : goal.returns-clause-same
returns-clause-same g c =
    let place = rw (c.deref.ensures.value, c.in-Some.is) at c.place.ensures in
    let e = c.arrived.ensures in
    rw (← c.self.view_is) (set-plain g.F.FileRef.bytes c.args.ask c.in-Some.at c.self.inside.questions.items c.index_mut-question.result.now c.self.invariant place (sym c.index_mut-question.ensures.value) c.arrived.new.self e.same e.fits)

pub returns-clause-holds : goal.returns-clause-holds
returns-clause-holds g c =
    let place = rw (c.deref.ensures.value, c.in-Some.is) at c.place.ensures in
    let e = c.arrived.ensures in
    λ s. rw (← c.self.view_is) (set-holds g.F.FileRef.bytes c.args.ask c.in-Some.at c.self.inside.questions.items c.index_mut-question.result.now c.self.invariant place (sym c.index_mut-question.ensures.value) c.arrived.new.self e.same e.fits s)
