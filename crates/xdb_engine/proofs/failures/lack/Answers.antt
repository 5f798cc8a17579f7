-- That a question ends in vain is a step, and its hold is in the set.
use Rattle.std.proofs.Common.{◌∙◌, subst, Some}
use Rattle.xdb_steps.specs.Notes.{held_note}
use Rattle.xdb_engine.specs.Holds.{LetsGo, release_notes}
use Rattle.xdb_engine.proofs.StepLaws.{lack-steps, failed-hold}
use Rattle.xdb_engine.proofs.failures.lack.Goals as goal

pub let_go-holds-requires-after_bounds : goal.let_go-holds-requires-after_bounds
let_go-holds-requires-after_bounds g c κs within = failed-hold c.args.state.now g.F.FileRef.bytes c.requires.set c.in-Ask.ask (Some c.fail-by.result.hold) c.fail-by.ensures.hold

pub returns-clause-step : goal.returns-clause-step
returns-clause-step g c =
    let f = c.fail-by.ensures in
    let there = rw c.in-Ask.is at c.requires.there in
    lack-steps c.args.state.now g.F.FileRef.bytes c.fail-by.new.self c.let_go-holds.new.files c.in-Ask.ask c.holding.result.note there f.leaves
    (subst (λ h. LetsGo h c.args.state.now.files c.let_go-holds.new.files) f.hold c.let_go-holds.ensures.goes)
    (c.holding.ensures.note ∙ (λ i. held_note (f.told i).0 (f.told i).1 (c.holding.ensures.reply i) ((c.let_go-holds.ensures.note ∙ (λ j. release_notes (f.hold j))) i)))
