-- What is left to answer of `spans`.
use Rattle.std.proofs.Common.{arith, IsTrue, subst}
use Rattle.std.proofs.lemmas.Grind.{common_steps}
use Rattle.std.proofs.lemmas.List.Elements.{All-more}
use Rattle.xdb_key.specs.Order.{is_below}
use Rattle.xdb_stripes.proofs.floor.spans.Goals as goal

pub loop-range-preserved : goal.loop-range-preserved
loop-range-preserved c = record {
  made = grind (arith, common_steps);
  ordered = All-more (λ r. IsTrue (is_below r.lo r.hi)) c.args.ranges.now c.loop-range.range-index c.range-item.result c.loop-range-test.true c.loop-range.invariant.ordered (subst (λ r. IsTrue (is_below r.lo r.hi)) c.range-item.is c.lo-lo.ensures.ordered);
}
