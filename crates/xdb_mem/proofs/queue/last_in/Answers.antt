-- What is left to answer of `last_in`.
use Rattle.std.proofs.Common.{cond, Some, None, sym, ap, ◌∙◌, arith}
use Rattle.xdb_key.specs.Groups.{later}
use Rattle.xdb_mem.proofs.FindLaws.{last-turn}
use Rattle.xdb_mem.proofs.queue.last_in.Goals as goal
use Rattle.xdb_mem.proofs.queue.last_in.Goals.{then-touches_one_of, else-touches_one_of}

pub loop-mem-preserved : goal.loop-mem-preserved
loop-mem-preserved c =
    elim c.if-touches_one_of.branch [
      | then-touches_one_of w ↦ record {
        number = omega (arith, c.loop-mem.invariant.number);
        others = last-turn c.args.ranges.now c.args.below c.loop-mem.num c.loop-mem.mem-index c.args.groups.now c.mem-item.result c.loop-mem.last c.if-touches_one_of.last c.loop-mem-test.true c.mem-item.is (w.last-is ∙ sym (ap (λ b. later c.loop-mem.last (cond b (Some c.loop-mem.num) None)) (sym c.touches_one_of.ensures.touches ∙ w.if-touches_one_of.true))) ∙ c.loop-mem.invariant.others;
      }
      | else-touches_one_of w ↦ record {
        number = omega (arith, c.loop-mem.invariant.number);
        others = last-turn c.args.ranges.now c.args.below c.loop-mem.num c.loop-mem.mem-index c.args.groups.now c.mem-item.result c.loop-mem.last c.if-touches_one_of.last c.loop-mem-test.true c.mem-item.is (w.last-is ∙ sym (ap (λ b. later c.loop-mem.last (cond b (Some c.loop-mem.num) None)) (sym c.touches_one_of.ensures.touches ∙ w.if-touches_one_of.false))) ∙ c.loop-mem.invariant.others;
      }
    ]
