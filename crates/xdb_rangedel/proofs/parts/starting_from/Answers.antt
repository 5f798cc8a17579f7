-- What is left to answer of `starting_from`.
use Rattle.std.proofs.Common.{◌≡◌, true, false, ap, ◌∙◌}
use Rattle.xdb_key.specs.Order.{is_below}
use Rattle.xdb_rangedel.proofs.PartLaws.{starting_from-whole, starting_from-made}
use Rattle.xdb_rangedel.proofs.parts.starting_from.Goals as goal

pub returns-then-not-is_below : goal.returns-then-not-is_below
returns-then-not-is_below c =
    let h : is_below c.args.span.range.lo c.args.at.now ≡ false = cc in
    starting_from-whole c.args.at.now c.args.span h

pub returns : goal.returns
returns c =
    let h : is_below c.args.span.range.lo c.args.at.now ≡ true = cc in
    let hi : c.into_bounds-hi.result.1 ≡ c.args.span.range.hi = ap (λ p. p.1) c.into_bounds-hi.ensures ∙ ap (λ r. r.hi) c.into_range.ensures in
    starting_from-made c.args.at.now c.args.span _ _ _ _ _ h c.new-2.ensures c.in-Ok.ensures.made c.in_ok-copy.ensures hi c.seq-seq.ensures.seq
