-- What is left to answer of `ending_by`.
use Rattle.std.proofs.Common.{◌≡◌, true, false, ap, ◌∙◌}
use Rattle.xdb_key.specs.Order.{is_below}
use Rattle.xdb_rangedel.proofs.PartLaws.{ending_by-whole, ending_by-made}
use Rattle.xdb_rangedel.proofs.parts.ending_by.Goals as goal

pub returns-then-not-is_below : goal.returns-then-not-is_below
returns-then-not-is_below c =
    let h : is_below c.args.at.now c.args.span.range.hi ≡ false = cc in
    ending_by-whole c.args.at.now c.args.span h

pub returns : goal.returns
returns c =
    let h : is_below c.args.at.now c.args.span.range.hi ≡ true = cc in
    let lo : c.into_bounds-lo.result.0 ≡ c.args.span.range.lo = ap (λ p. p.0) c.into_bounds-lo.ensures ∙ ap (λ r. r.lo) c.into_range.ensures in
    ending_by-made c.args.at.now c.args.span _ _ _ _ _ h c.new-3.ensures c.in-Ok.ensures.made lo c.in_ok-copy.ensures c.seq-seq.ensures.seq
