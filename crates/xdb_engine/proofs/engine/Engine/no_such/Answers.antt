-- That there is no such work is a step.
use Rattle.std.proofs.Common.{ap, ◌∙◌, ◌++◌, ◌∷◌, []}
use Rattle.xdb_plain.specs.declared.act.By.TheVariants.{Db}
use Rattle.xdb_plain.specs.declared.reply.Reply.TheVariants.{NoSuch}
use Rattle.xdb_steps.specs.Notes.{plain_note}
use Rattle.xdb_engine.proofs.StateLaws.{state-pushed}
use Rattle.xdb_engine.proofs.StepLaws.{no_work-steps}
use Rattle.xdb_engine.proofs.engine.Engine.no_such.Goals as goal

pub invariant_of-self : goal.invariant_of-self
invariant_of-self g c =
    let e = c.self.inside in
    let is = c.new-verdict.ensures.note ∙ ap (plain_note Db c.args.act) c.new-verdict.ensures.reply in
    state-pushed g.F.FileRef.bytes e.state e.state e.history c.push.new.self e.removals e.book (plain_note Db c.args.act NoSuch) c.self.invariant
    (no_work-steps e.state g.F.FileRef.bytes c.args.act c.requires.work) c.push.ensures.seq c.push.ensures.file (c.push.ensures.notes ∙ ap (λ n. e.history.notes ++ n ∷ []) is) c.push.ensures.spare
