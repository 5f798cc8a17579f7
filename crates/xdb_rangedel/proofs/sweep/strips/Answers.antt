-- What is left to answer of `strips`.
use Rattle.std.proofs.Common.{◌∙◌, ap}
use Rattle.xdb_rangedel.specs.Sweep.{place_of}
use Rattle.xdb_rangedel.proofs.StripLaws.{strip_pushed, fits_pushed, same_strip}
use Rattle.xdb_rangedel.proofs.sweep.strips.Goals as goal

pub loop-span-preserved : goal.loop-span-preserved
loop-span-preserved c =
    let bs = c.args.bounds.now in
    let t = c.span-item.result in
    let from = c.place.ensures ∙ ap (place_of bs) (c.lo.ensures.lo ∙ ap (λ r. r.lo) c.range.ensures) in
    let to = c.place-in-loop-span.ensures ∙ ap (place_of bs) (c.hi.ensures ∙ ap (λ r. r.hi) c.range-in-loop-span.ensures) in
    let same = same_strip bs t c.seq.result c.place.result c.place-in-loop-span.result c.seq.ensures.seq from to in (
      strip_pushed bs c.args.spans.now c.loop-span.strips.items c.push.new.self.items c.loop-span.span-index t _ c.loop-span-test.true c.span-item.is c.loop-span.invariant.0 c.in_ok-push.ensures.items same,
      fits_pushed bs c.loop-span.strips.items c.push.new.self.items t _ c.loop-span.invariant.1 c.in_ok-push.ensures.items same c.seq.ensures.small,
    )
