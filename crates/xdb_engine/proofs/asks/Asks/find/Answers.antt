-- The question at the place is the one that is found.
use Rattle.std.proofs.Common.{sym}
use Rattle.xdb_engine.proofs.AskLaws.{place-is}
use Rattle.xdb_engine.proofs.asks.Asks.find.Goals as goal

pub returns-clause-found : goal.returns-clause-found
returns-clause-found g c =
    let place = rw (c.deref.ensures.value, c.in_ok-at.was) at c.place.ensures in
    rw (← c.self.view_is) (sym (place-is g.F.FileRef.bytes c.args.ask c.in_ok-at.at c.self.inside.questions.items c.index.result.now c.self.invariant place (sym c.index.ensures)))
