-- What is left to answer of `clip`.
use Rattle.std.proofs.Common.{◌≡◌, length, subst, arith}
use Rattle.xdb_mem.proofs.WalkLaws.{Clips, clips_skip, clips_none, clips_turn}
use Rattle.xdb_mem.proofs.span_list.clip.Goals as goal

pub loop-left-init : goal.loop-left-init
loop-left-init c =
    let bs = c.args.index.now in
    record {
      bound = c.skip-left.ensures.bound;
      clips = clips_skip c.args.spans.now bs c.args.range.now c.args.below c.args.out.now.items c.skip-left.result (length bs) c.args.out.now.items c.skip-left.ensures.bound (omega arith) c.skip-left.ensures.apart
          (clips_none c.args.spans.now bs c.args.range.now c.args.below c.args.out.now.items (length bs) (omega arith));
      ordered = λ h. h;
    }

pub loop-left-preserved : goal.loop-left-preserved
loop-left-preserved c =
    let kept = c.loop-left.invariant in
    record {
      bound = omega (arith, c.skip-left-in-loop-left.ensures.bound, kept.bound);
      clips = clips_turn c.args.spans.now c.args.index.now c.args.range.now c.args.below c.args.out.now.items c.loop-left.left c.skip-left-in-loop-left.result c.loop-left.out.items c.add_part.new.out.items c.span.result.now
          (omega (arith, c.loop-left-test.true)) kept.bound c.span.ensures c.in_ok-add_part.ensures.part c.skip-left-in-loop-left.ensures.bound c.skip-left-in-loop-left.ensures.apart kept.clips;
      ordered = λ h. c.in_ok-add_part.ensures.ordered (kept.ordered h);
    }

pub returns-clause-parts : goal.returns-clause-parts
returns-clause-parts c =
    let none : c.loop-left.left ≡ 0 = omega (arith, c.loop-left-test.false) in
    subst (λ n. Clips c.args.spans.now c.args.index.now c.args.range.now c.args.below c.args.out.now.items n c.loop-left.out.items) none c.loop-left.invariant.clips
