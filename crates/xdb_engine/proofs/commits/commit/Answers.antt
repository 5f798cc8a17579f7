-- A commit that takes effect is a step.
use Rattle.std.proofs.Common.{rules, ◌≡◌, ◌+◌, ◌≤◌, ◌^◌, length, ap, ◌∙◌}
use Rattle.xdb_mem.specs.Queue.{committed}
use Rattle.xdb_steps.specs.Notes.{plain_note}
use Rattle.xdb_engine.proofs.StepLaws.{committed-steps}
use Rattle.xdb_engine.proofs.commits.commit.Goals as goal

pub returns-clause-step : goal.returns-clause-step
returns-clause-step g c =
    let s = c.args.state.now in
    let added : c.commit.new.self ≡ committed s.numbers.next c.args.batch s.mem = search rules in
    let room : s.numbers.next + length c.args.batch ≤ 2 ^ 56 = search rules in
    let is = c.new-2.ensures.note ∙ (λ i. plain_note c.args.by (c.act_of-act-2.ensures i) (c.new-2.ensures.reply i)) in
    committed-steps s g.F.FileRef.bytes c.commit.new.self (length c.ops.result.now) c.args.by c.args.form c.args.batch c.new-2.result.note is added (ap length c.ops.ensures.ops) room
