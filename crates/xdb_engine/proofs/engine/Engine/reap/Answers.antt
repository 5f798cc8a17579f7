-- A number that is taken is a step.
use Rattle.std.proofs.Common.{sym, ap, ◌∙◌, arith}
use Rattle.xdb_history.specs.Recorded.{state_of}
use Rattle.xdb_lists.specs.Numbers.{is_among}
use Rattle.xdb_plain.specs.Changes.{taken_after}
use Rattle.xdb_engine.proofs.StateLaws.{state-booked, taken-waits}
use Rattle.xdb_engine.proofs.engine.Engine.reap.Goals as goal

pub invariant_of-self : goal.invariant_of-self
invariant_of-self g c =
    let e = c.self.inside in
    state-booked g.F.FileRef.bytes e.state c.reap-verdict.new.state e.history c.push.new.self e.removals e.book c.reap-verdict.result.0.note c.self.invariant
    e.book 0 c.add.new.self c.reap-verdict.ensures.step c.push.ensures.seq c.push.ensures.file c.push.ensures.notes c.push.ensures.spare (omega arith) c.add.ensures.room
    (λ n there. ap (λ r. is_among n (taken_after (state_of e.history).taken r)) (ap (λ m. m.reply) c.reap-verdict.ensures.note ∙ c.reap-verdict.ensures.reply)
    ∙ taken-waits (state_of e.history).taken e.removals.numbers c.reap-verdict.result.1 c.self.invariant.taken n (sym (ap (is_among n) c.add.ensures.numbers) ∙ there))
