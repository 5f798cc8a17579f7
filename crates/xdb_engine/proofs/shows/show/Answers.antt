-- What is shown is a step.
use Rattle.std.proofs.Common.{ap, ◌∙◌}
use Rattle.xdb_plain.specs.declared.act.Act.TheVariants as act
use Rattle.xdb_plain.specs.declared.act.By.TheVariants.{Db}
use Rattle.xdb_steps.specs.Notes.{plain_note}
use Rattle.xdb_engine.proofs.FileSteps.{shown-steps, unshown-steps}
use Rattle.xdb_engine.proofs.shows.show.Goals as goal

pub returns-in-Ok-clause-step : goal.returns-in-Ok-clause-step
returns-in-Ok-clause-step g c =
    shown-steps c.args.state.now g.F.FileRef.bytes c.args.what c.new.result.note c.current-current.ensures.set
    (c.new.ensures.note ∙ ap (plain_note Db (act.Show c.args.what)) (c.new.ensures.reply ∙ c.in-Ok.ensures.reply))

pub returns-in-Err-clause-step : goal.returns-in-Err-clause-step
returns-in-Err-clause-step g c =
    unshown-steps c.args.state.now g.F.FileRef.bytes c.args.what c.new-in-Err.result.note
    (c.new-in-Err.ensures.note ∙ ap (plain_note Db (act.Show c.args.what)) c.new-in-Err.ensures.reply)
