-- What is left to answer of `first_in`.
use Rattle.std.proofs.Common.{◌+◌, cond, drop, Some, sym, ap, ◌∙◌, arith}
use Rattle.xdb_key.specs.Groups.{first_touching}
use Rattle.xdb_mem.specs.KeptQueue.{groups_from}
use Rattle.xdb_mem.proofs.FindLaws.{first-turn}
use Rattle.xdb_mem.proofs.queue.first_in.Goals as goal

pub returns-then-touches : goal.returns-then-touches
returns-then-touches c =
    let rest = first_touching c.args.ranges.now (groups_from (c.loop-mem.num + 1) (drop (c.loop-mem.mem-index + 1) c.args.groups.now)) in
    sym (first-turn c.args.ranges.now c.loop-mem.num c.loop-mem.mem-index c.args.groups.now c.mem-item.result c.loop-mem-test.true c.mem-item.is ∙ ap (λ b. cond b (Some c.loop-mem.num) rest) (sym c.touches.ensures ∙ c.if-touches.true)) ∙ c.loop-mem.invariant.others

pub loop-mem-preserved : goal.loop-mem-preserved
loop-mem-preserved c =
    let rest = first_touching c.args.ranges.now (groups_from (c.loop-mem.num + 1) (drop (c.loop-mem.mem-index + 1) c.args.groups.now)) in
    record {
      number = omega (arith, c.loop-mem.invariant.number);
      others = sym (first-turn c.args.ranges.now c.loop-mem.num c.loop-mem.mem-index c.args.groups.now c.mem-item.result c.loop-mem-test.true c.mem-item.is ∙ ap (λ b. cond b (Some c.loop-mem.num) rest) (sym c.touches.ensures ∙ c.if-touches.false)) ∙ c.loop-mem.invariant.others;
    }
