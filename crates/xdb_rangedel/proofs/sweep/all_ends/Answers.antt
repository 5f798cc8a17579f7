-- What is left to answer of `all_ends`.
use Rattle.std.proofs.Common.{◌≡◌, true, sym, ◌∙◌, ap, subst}
use Rattle.std.specs.Bool.{IsTrue}
use Rattle.std.proofs.lemmas.List.Elements.{All-more}
use Rattle.xdb_key.specs.Order.{is_below}
use Rattle.xdb_rangedel.specs.Pieces.{is_ordered}
use Rattle.xdb_rangedel.proofs.StripLaws.{ends_pushed}
use Rattle.xdb_rangedel.proofs.sweep.all_ends.Goals as goal

pub loop-span-preserved : goal.loop-span-preserved
loop-span-preserved c =
    let lo = c.in_ok-copy.ensures ∙ c.lo.ensures.lo ∙ ap (λ r. r.lo) c.range.ensures in
    let hi = c.in_ok-copy-2.ensures ∙ c.hi.ensures ∙ ap (λ r. r.hi) c.range-in-loop-span.ensures in
    let ordered : is_ordered c.span-item.result ≡ true = sym (ap (λ r. is_below r.lo r.hi) c.range.ensures) ∙ c.lo.ensures.ordered in (
      ends_pushed c.args.spans.now c.loop-span.span-index c.span-item.result _ _ _ _ _ c.loop-span-test.true c.span-item.is c.loop-span.invariant.0 c.in_ok-push.ensures.items c.in_ok-push-2.ensures.items lo hi,
      All-more (λ t. IsTrue (is_ordered t)) c.args.spans.now c.loop-span.span-index c.span-item.result c.loop-span-test.true c.loop-span.invariant.1 (subst (λ t. IsTrue (is_ordered t)) c.span-item.is ordered),
    )
