-- A settle is a step, and the hold that the question had is in the set.
use Rattle.std.proofs.Common.{◌∙◌, subst}
use Rattle.xdb_steps.specs.Notes.{held_note}
use Rattle.xdb_engine.specs.Holds.{LetsGo, release_notes}
use Rattle.xdb_engine.proofs.StepLaws.{settle-steps, settled-hold}
use Rattle.xdb_engine.proofs.asking.settle.Goals as goal

pub let_go-holds-requires-after_bounds : goal.let_go-holds-requires-after_bounds
let_go-holds-requires-after_bounds g c κs within =
    let e = c.settle-act.ensures.settled in
    settled-hold c.args.state.now g.F.FileRef.bytes c.requires.set c.args.ask c.settle-act.result.hold e.hold

pub returns-clause-step : goal.returns-clause-step
returns-clause-step g c =
    let e = c.settle-act.ensures in
    let s = c.settle-act.result in
    settle-steps c.args.state.now g.F.FileRef.bytes c.settle-act.new.self c.let_go-holds.new.files c.args.ask c.args.by c.holding.result.note e.asks e.settled.leaves
    (subst (λ h. LetsGo h c.args.state.now.files c.let_go-holds.new.files) e.settled.hold c.let_go-holds.ensures.goes)
    (c.holding.ensures.note ∙ (λ i. held_note c.args.by (e.settled.same_act i) ((c.holding.ensures.reply ∙ e.settled.told) i) ((c.let_go-holds.ensures.note ∙ (λ j. release_notes (e.settled.hold j))) i)))
