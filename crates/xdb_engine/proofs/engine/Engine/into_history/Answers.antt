-- Without files nothing is dead.
use Rattle.xdb_history.specs.Recorded.{state_of}
use Rattle.xdb_engine.specs.State.{core_of}
use Rattle.xdb_engine.proofs.StateLaws.{none-dead}
use Rattle.xdb_engine.proofs.engine.Engine.into_history.Goals as goal

pub returns-clause-clean : goal.returns-clause-clean
returns-clause-clean g c =
    let e = c.self.inside in
    let i = c.self.invariant in
    rw (← c.self.view_is) (none-dead (core_of g.F.FileRef.bytes e.state).files (state_of e.history) e.state.numbers.file i.set.none.known i.stands.agrees.files)
