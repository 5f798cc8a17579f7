-- The questions' numbers are among those of the plain state.
use Rattle.std.proofs.Common.{All, sym, subst}
use Rattle.xdb_steps.specs.Parts.Asks.{IsNumbered}
use Rattle.xdb_engine.specs.Questions.{plain_question}
use Rattle.xdb_engine.proofs.AskLaws.{numbered-asks}
use Rattle.xdb_engine.proofs.engine.Engine.notes.Goals as goal

pub returns-clause-numbered : goal.returns-clause-numbered
returns-clause-numbered g c =
    let s = c.self.inside.state in
    let a = c.self.invariant.stands.agrees in
    rw (← c.self.view_is) (subst (λ n. All (λ q. IsNumbered n (plain_question q)) s.asks) (sym a.numbers.asked) (numbered-asks s.numbers.asked s.asks a.asks.numbered))
