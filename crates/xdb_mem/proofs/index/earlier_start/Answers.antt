-- What is left to answer of `earlier_start`.
use Rattle.std.proofs.Common.{sym, ap, ◌∙◌, not}
use Rattle.xdb_key.specs.Order.{is_below}
use Rattle.xdb_key.proofs.OrderLaws.{upto-itself, upto-not_below}
use Rattle.xdb_mem.specs.Blocks.{span_at}
use Rattle.xdb_mem.proofs.index.earlier_start.Goals as goal

pub returns-then-is_below-clause-b : goal.returns-then-is_below-clause-b
returns-then-is_below-clause-b c = upto-itself (span_at c.args.spans.now c.args.b).range.lo

pub returns-else-is_below-clause-a : goal.returns-else-is_below-clause-a
returns-else-is_below-clause-a c = upto-itself (span_at c.args.spans.now c.args.a).range.lo

pub returns-else-is_below-clause-b : goal.returns-else-is_below-clause-b
returns-else-is_below-clause-b c =
    let a = (span_at c.args.spans.now c.args.a).range.lo in
    let b = (span_at c.args.spans.now c.args.b).range.lo in
    upto-not_below a b ∙ ap not ((λ i. is_below (sym c.lo.ensures i) (sym c.lo-2.ensures i)) ∙ sym c.is_below.ensures ∙ c.if-is_below.false)
