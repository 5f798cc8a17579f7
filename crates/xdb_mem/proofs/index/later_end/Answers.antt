-- What is left to answer of `later_end`.
use Rattle.std.proofs.Common.{sym, ap, ◌∙◌, not}
use Rattle.xdb_key.specs.Order.{is_below}
use Rattle.xdb_key.proofs.OrderLaws.{upto-itself, upto-not_below}
use Rattle.xdb_mem.specs.Blocks.{span_at}
use Rattle.xdb_mem.proofs.index.later_end.Goals as goal

pub returns-then-is_below-clause-b : goal.returns-then-is_below-clause-b
returns-then-is_below-clause-b c = upto-itself (span_at c.args.spans.now c.args.b).range.hi

pub returns-else-is_below-clause-a : goal.returns-else-is_below-clause-a
returns-else-is_below-clause-a c = upto-itself (span_at c.args.spans.now c.args.a).range.hi

pub returns-else-is_below-clause-b : goal.returns-else-is_below-clause-b
returns-else-is_below-clause-b c =
    let a = (span_at c.args.spans.now c.args.a).range.hi in
    let b = (span_at c.args.spans.now c.args.b).range.hi in
    upto-not_below b a ∙ ap not ((λ i. is_below (sym c.hi.ensures i) (sym c.hi-2.ensures i)) ∙ sym c.is_below.ensures ∙ c.if-is_below.false)
