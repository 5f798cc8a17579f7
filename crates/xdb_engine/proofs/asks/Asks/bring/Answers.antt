-- The question at the place is the one that is found, and another stands there afterwards.
use Rattle.std.proofs.Common.{sym}
use Rattle.xdb_engine.proofs.AskLaws.{place-is, set-asks, set-holds, set-plain, brought}
use Rattle.xdb_engine.proofs.asks.Asks.bring.Goals as goal

pub bring-requires-after_bounds : goal.bring-requires-after_bounds
bring-requires-after_bounds g c κs within =
    let place = rw (c.deref.ensures.value, c.in-Some.is) at c.place.ensures in
    let q = c.index_mut-question.result.now in
    let there = place-is g.F.FileRef.bytes c.args.ask c.in-Some.at c.self.inside.questions.items q c.self.invariant place (sym c.index_mut-question.ensures.value) in
    rw (← c.self.view_is, there) at c.requires.fits

pub invariant_of-self : goal.invariant_of-self
invariant_of-self g c =
    let place = rw (c.deref.ensures.value, c.in-Some.is) at c.place.ensures in
    let q = c.index_mut-question.result.now in
    let e = c.bring.ensures in
    set-asks g.F.FileRef.bytes c.args.ask c.in-Some.at c.self.inside.questions.items q c.self.invariant place (sym c.index_mut-question.ensures.value) c.bring.new.self e.same e.fits

pub returns-clause-placed : goal.returns-clause-placed
returns-clause-placed g c =
    let place = rw (c.deref.ensures.value, c.in-Some.is) at c.place.ensures in
    let q = c.index_mut-question.result.now in
    let e = c.bring.ensures in
    rw (← c.self.view_is) (brought g.F.FileRef.bytes c.args.ask c.in-Some.at c.self.inside.questions.items q c.self.invariant place (sym c.index_mut-question.ensures.value) c.bring.new.self e.same e.fits c.args.done e.kept)

pub returns-clause-same : goal.returns-clause-same
returns-clause-same g c =
    let place = rw (c.deref.ensures.value, c.in-Some.is) at c.place.ensures in
    let q = c.index_mut-question.result.now in
    let e = c.bring.ensures in
    rw (← c.self.view_is) (set-plain g.F.FileRef.bytes c.args.ask c.in-Some.at c.self.inside.questions.items q c.self.invariant place (sym c.index_mut-question.ensures.value) c.bring.new.self e.same e.fits)

pub returns-clause-holds : goal.returns-clause-holds
returns-clause-holds g c =
    let place = rw (c.deref.ensures.value, c.in-Some.is) at c.place.ensures in
    let q = c.index_mut-question.result.now in
    let e = c.bring.ensures in
    λ s. rw (← c.self.view_is) (set-holds g.F.FileRef.bytes c.args.ask c.in-Some.at c.self.inside.questions.items q c.self.invariant place (sym c.index_mut-question.ensures.value) c.bring.new.self e.same e.fits s)
