-- The number waits no more, and what is told is a step.
use Rattle.std.proofs.Common.{[], ◌∷◌, ◌++◌, sym, ap, ◌∙◌, arith}
use Rattle.xdb_plain.specs.declared.reply.Reply.TheVariants.{Stuck, Memory}
use Rattle.xdb_engine.specs.Reaped.{stays_note}
use Rattle.xdb_engine.proofs.FileSteps.{stuck-steps, unremoved-steps}
use Rattle.xdb_engine.proofs.StateLaws.{state-booked, state-left, state-spent, still-wait}
use Rattle.xdb_engine.proofs.engine.Engine.reaped.Goals as goal

pub invariant_of-self-in-Ok : goal.invariant_of-self-in-Ok
invariant_of-self-in-Ok g c =
    let e = c.self.inside in
    state-spent g.F.FileRef.bytes e.state c.spend.new.self e.history c.take_out.new.self e.book c.spend.ensures
    (state-left g.F.FileRef.bytes e.state e.history e.removals c.take_out.new.self e.book c.num-num.result c.self.invariant c.take_out.ensures.room c.take_out.ensures.numbers)

pub invariant_of-self-in-Err-Failed-10 : goal.invariant_of-self-in-Err-Failed-10
invariant_of-self-in-Err-Failed-10 g c =
    let e = c.self.inside in
    let bytes = g.F.FileRef.bytes in
    let num = c.num-num.result in
    let there = sym c.has.ensures ∙ c.if-not-has.false in
    let fewer = state-left bytes e.state e.history e.removals c.take_out.new.self e.book num c.self.invariant c.take_out.ensures.room c.take_out.ensures.numbers in
    state-spent bytes e.state c.spend.new.self c.push.new.self c.take_out.new.self c.charge.new.self c.spend.ensures
    (state-booked bytes e.state e.state e.history c.push.new.self c.take_out.new.self e.book (stays_note num Stuck) fewer
    c.charge.new.self 1 c.take_out.new.self (stuck-steps e.state bytes num (sym (c.self.invariant.stands.agrees.files.taken num) ∙ c.self.invariant.taken num there))
    c.push.ensures.seq c.push.ensures.file (c.push.ensures.notes ∙ ap (λ n. e.history.notes ++ n ∷ []) c.stays-verdict.ensures.note) c.push.ensures.spare c.charge.ensures.book (omega arith)
    (still-wait bytes e.state e.state e.history c.push.new.self c.take_out.new.self e.book (stays_note num Stuck) fewer))

pub invariant_of-self-in-Err-Memory-10 : goal.invariant_of-self-in-Err-Memory-10
invariant_of-self-in-Err-Memory-10 g c =
    let e = c.self.inside in
    let bytes = g.F.FileRef.bytes in
    let num = c.num-num.result in
    let there = sym c.has.ensures ∙ c.if-not-has.false in
    let fewer = state-left bytes e.state e.history e.removals c.take_out.new.self e.book num c.self.invariant c.take_out.ensures.room c.take_out.ensures.numbers in
    state-spent bytes e.state c.spend.new.self c.push-in-Err-Memory.new.self c.take_out.new.self e.book c.spend.ensures
    (state-booked bytes e.state e.state e.history c.push-in-Err-Memory.new.self c.take_out.new.self e.book (stays_note num Memory) fewer
    e.book 0 c.take_out.new.self (unremoved-steps e.state bytes num (sym (c.self.invariant.stands.agrees.files.taken num) ∙ c.self.invariant.taken num there))
    c.push-in-Err-Memory.ensures.seq c.push-in-Err-Memory.ensures.file (c.push-in-Err-Memory.ensures.notes ∙ ap (λ n. e.history.notes ++ n ∷ []) c.stays-verdict-in-Err-Memory.ensures.note) c.push-in-Err-Memory.ensures.spare (omega arith) (omega arith)
    (still-wait bytes e.state e.state e.history c.push-in-Err-Memory.new.self c.take_out.new.self e.book (stays_note num Memory) fewer))
