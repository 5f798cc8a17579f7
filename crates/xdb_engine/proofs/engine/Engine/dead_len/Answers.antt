-- The set has the dead numbers of the plain state.
use Rattle.std.proofs.Common.{length, sym, ap, ◌∙◌}
use Rattle.xdb_history.specs.Recorded.{state_of}
use Rattle.xdb_engine.proofs.FileSteps.{dead-same}
use Rattle.xdb_engine.proofs.engine.Engine.dead_len.Goals as goal

pub returns : goal.returns
returns g c =
    let e = c.self.inside in
    rw (← c.self.view_is) (c.dead_len.ensures.len ∙ ap length (sym (dead-same e.state g.F.FileRef.bytes (state_of e.history) c.current-current.ensures.set c.self.invariant.set c.self.invariant.stands.agrees)))
