-- What is left to answer of `meets`.
use Rattle.std.proofs.Common.{◌≡◌, ◌-◌, length, sym, subst, ◌∙◌, arith}
use Rattle.xdb_mem.proofs.WalkLaws.{NoneFrom, none_skip, none_behind, none_turn, met_here}
use Rattle.xdb_mem.proofs.span_list.meets.Goals as goal

pub loop-left-init : goal.loop-left-init
loop-left-init c =
    let bs = c.args.index.now in
    record {
      bound = c.skip-left.ensures.bound;
      none = none_skip c.args.spans.now bs c.args.range.now c.args.below c.skip-left.result (length bs) c.skip-left.ensures.bound (omega arith) c.skip-left.ensures.apart
          (none_behind c.args.spans.now bs c.args.range.now c.args.below (length bs) (omega arith));
    }

pub returns-then-is_met : goal.returns-then-is_met
returns-then-is_met c =
    sym (met_here c.args.spans.now c.args.index.now c.args.range.now c.args.below (c.loop-left.left - 1) c.span-span.result.now (omega (arith, c.loop-left-test.true, c.loop-left.invariant.bound)) c.span-span.ensures (sym c.is_met.ensures ∙ c.if-is_met.true))

pub loop-left-preserved : goal.loop-left-preserved
loop-left-preserved c =
    let kept = c.loop-left.invariant in
    record {
      bound = omega (arith, c.skip-left-in-loop-left.ensures.bound, kept.bound);
      none = none_turn c.args.spans.now c.args.index.now c.args.range.now c.args.below c.loop-left.left c.skip-left-in-loop-left.result c.span-span.result.now
          (omega (arith, c.loop-left-test.true)) kept.bound c.span-span.ensures (sym c.is_met.ensures ∙ c.if-is_met.false) c.skip-left-in-loop-left.ensures.bound c.skip-left-in-loop-left.ensures.apart kept.none;
    }

pub returns : goal.returns
returns c =
    let none : c.loop-left.left ≡ 0 = omega (arith, c.loop-left-test.false) in
    sym (subst (NoneFrom c.args.spans.now c.args.index.now c.args.range.now c.args.below) none c.loop-left.invariant.none)
