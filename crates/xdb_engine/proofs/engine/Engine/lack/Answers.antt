-- That work ends in vain is a step.
use Rattle.xdb_engine.proofs.StateLaws.{state-pushed}
use Rattle.xdb_engine.proofs.engine.Engine.lack.Goals as goal

pub invariant_of-self : goal.invariant_of-self
invariant_of-self g c =
    let e = c.self.inside in
    state-pushed g.F.FileRef.bytes e.state c.lack-verdict.new.state e.history c.push.new.self e.removals e.book c.lack-verdict.result.note c.self.invariant
    (c.lack-verdict.ensures.step) c.push.ensures.seq c.push.ensures.file c.push.ensures.notes c.push.ensures.spare
