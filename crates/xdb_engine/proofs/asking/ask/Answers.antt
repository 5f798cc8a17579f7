-- An ask is a step, whatever it replies.
use Rattle.std.proofs.Common.{rules, ◌≡◌, ◌<◌, ◌≤◌, true, false, length, ◌∙◌}
use Rattle.xdb_laws.specs.Answered.{is_of_now}
use Rattle.xdb_steps.specs.Notes.{plain_note, held_note}
use Rattle.xdb_engine.proofs.StepLaws.{opened-steps, no_such-steps, too_many-steps, lacking-steps}
use Rattle.xdb_engine.proofs.asking.ask.Goals as goal

pub returns-then-not-is_of_now-clause-step : goal.returns-then-not-is_of_now-clause-step
returns-then-not-is_of_now-clause-step g c =
    let a = c.args in
    let then : is_of_now a.question ≡ false = search rules in
    no_such-steps a.state.now g.F.FileRef.bytes a.by a.question a.parted c.new.result.note
    (c.new.ensures.note ∙ (λ i. plain_note a.by (c.act_of-act.ensures i) (c.new.ensures.reply i))) then

pub returns-then-len-ge-MOST_QUESTIONS-clause-step : goal.returns-then-len-ge-MOST_QUESTIONS-clause-step
returns-then-len-ge-MOST_QUESTIONS-clause-step g c =
    let a = c.args in
    let now : is_of_now a.question ≡ true = search rules in
    let many : 64 ≤ length a.state.now.asks = search rules in
    let v = c.new-then-len-ge-MOST_QUESTIONS in
    too_many-steps a.state.now g.F.FileRef.bytes a.by a.question a.parted v.result.note
    (v.ensures.note ∙ (λ i. plain_note a.by (c.act_of-act-then-len-ge-MOST_QUESTIONS.ensures i) (v.ensures.reply i))) now many

pub returns-in-Ok-clause-step : goal.returns-in-Ok-clause-step
returns-in-Ok-clause-step g c =
    let a = c.args in
    let v = c.holding-verdict in
    let o = c.in-Ok.ensures.opened in
    opened-steps a.state.now g.F.FileRef.bytes a.by a.question a.parted c.open.new.state c.in-Ok.field-0 o v.result.note
    (v.ensures.note ∙ (λ i. held_note a.by (c.act_of-act-in-Ok.ensures i) (v.ensures.reply i) (o.holds i)))

pub returns-in-Err-clause-step : goal.returns-in-Err-clause-step
returns-in-Err-clause-step g c =
    let a = c.args in
    let now : is_of_now a.question ≡ true = search rules in
    let few : length a.state.now.asks < 64 = search rules in
    let v = c.new-in-Err in
    lacking-steps a.state.now g.F.FileRef.bytes a.by a.question a.parted c.open.new.state v.result.note
    (v.ensures.note ∙ (λ i. plain_note a.by (c.act_of-act-in-Err.ensures i) (v.ensures.reply i))) c.in-Err.ensures.unchanged now few
