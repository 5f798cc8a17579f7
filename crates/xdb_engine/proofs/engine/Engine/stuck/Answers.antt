-- That a file stays is a step, which is booked.
use Rattle.std.proofs.Common.{[], ◌∷◌, ◌++◌, sym, ap, ◌∙◌, arith}
use Rattle.xdb_plain.specs.declared.act.Act.TheVariants as act
use Rattle.xdb_plain.specs.declared.act.By.TheVariants.{Db}
use Rattle.xdb_plain.specs.declared.reply.Reply.TheVariants.{Stuck}
use Rattle.xdb_steps.specs.Notes.{plain_note}
use Rattle.xdb_engine.proofs.FileSteps.{stuck-steps}
use Rattle.xdb_engine.proofs.StateLaws.{state-booked, still-wait}
use Rattle.xdb_engine.proofs.engine.Engine.stuck.Goals as goal

pub invariant_of-self : goal.invariant_of-self
invariant_of-self g c =
    let e = c.self.inside in
    let taken = rw (← c.self.view_is) at c.requires.taken in
    state-booked g.F.FileRef.bytes e.state e.state e.history c.push.new.self e.removals e.book (plain_note Db (act.Remove c.args.num) Stuck) c.self.invariant
    c.charge.new.self 1 e.removals (stuck-steps e.state g.F.FileRef.bytes c.args.num (sym (c.self.invariant.stands.agrees.files.taken c.args.num) ∙ taken))
    c.push.ensures.seq c.push.ensures.file (c.push.ensures.notes ∙ ap (λ n. e.history.notes ++ n ∷ []) c.stays-verdict.ensures.note) c.push.ensures.spare c.charge.ensures.book (omega arith)
    (still-wait g.F.FileRef.bytes e.state e.state e.history c.push.new.self e.removals e.book (plain_note Db (act.Remove c.args.num) Stuck) c.self.invariant)
