use Rattle.std.proofs.Common.{◌≡◌, ◌+◌, ◌^◌, ◌<◌, ap, sym, ◌∙◌, arith}
use Rattle.xdb_gen.specs.Rules.{by_rule, rule_of}
use Rattle.xdb_gen.proofs.ScriptLaws.{progress-next, progress-ended}
use Rattle.xdb_gen.proofs.generate.Goals as goal

-- src/lib.rt:39:5
pub loop-said-preserved : goal.loop-said-preserved
loop-said-preserved c =
    c.in_ok-say_operation.ensures
    ∙ ap (by_rule (rule_of (c.loop-said.said + 1)) (c.loop-said.said + 1)) c.loop-said.invariant
    ∙ sym (progress-next c.loop-said.said c.args.seed)

-- src/lib.rt:42:8
pub into_script-requires : goal.into_script-requires
into_script-requires c =
    let small : c.args.ops < 2 ^ 32 = omega arith in
    let done : c.loop-said.said ≡ c.args.ops = omega arith in
    progress-ended c.loop-said.draft c.loop-said.said c.args.ops c.args.seed c.loop-said.invariant done small
