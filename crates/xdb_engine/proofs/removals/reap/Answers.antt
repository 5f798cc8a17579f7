-- Nothing is dead, or the least dead number is taken.
use Rattle.std.proofs.Common.{rules, ◌≡◌, length, ap, ◌∙◌}
use Rattle.xdb_steps.specs.Notes.{plain_note}
use Rattle.xdb_plain.specs.declared.act.Act.TheVariants.{Reap}
use Rattle.xdb_plain.specs.declared.act.By.TheVariants.{Db}
use Rattle.xdb_engine.proofs.FileSteps.{idle-steps, none-among}
use Rattle.xdb_engine.proofs.removals.reap.Goals as goal

pub returns-then-dead_len-eq0-clause-step : goal.returns-then-dead_len-eq0-clause-step
returns-then-dead_len-eq0-clause-step g c =
    let s = c.args.state.now in
    let none : length s.files.dead ≡ 0 = search rules in
    idle-steps s g.F.FileRef.bytes c.new-verdict.result.note c.current-current.ensures.set none
    (c.new-verdict.ensures.note ∙ ap (plain_note Db Reap) c.new-verdict.ensures.reply)

pub unreachable-requires : goal.unreachable-requires
unreachable-requires g c =
    let s = c.args.state.now in
    let none = none-among s.files.dead (λ n. c.dead_len.ensures.dead n ∙ c.in_default.ensures.least n) in
    c.if-dead_len-eq0.false (c.dead_len.ensures.len ∙ ap length none)
