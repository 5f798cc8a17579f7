-- The plain questions and their holds stay.
use Rattle.xdb_engine.proofs.StateLaws.{state-looked}
use Rattle.xdb_engine.proofs.engine.Engine.bring.Goals as goal

pub invariant_of-self : goal.invariant_of-self
invariant_of-self g c =
    let e = c.self.inside in
    state-looked g.F.FileRef.bytes e.state c.bring.new.asks c.bring.ensures.same c.bring.ensures.holds e.history e.removals e.book c.self.invariant
