-- What is left to answer of `spans_between`.
use Rattle.std.proofs.Common.{◌≡◌, ◌≤◌, ◌∙◌, List, Some, arith}
use Rattle.std.proofs.lemmas.Bool.{false≢true}
use Rattle.std.proofs.lemmas.Result.{IfOk-weaker}
use Rattle.std.specs.List.{slice_get}
use Rattle.xdb_key.specs.Bounds.{bounds}
use Rattle.xdb_key.specs.Entries.{Point, Tombstone}
use Rattle.xdb_key.specs.Order.{is_below}
use Rattle.xdb_rangedel.specs.Clip.{parts_before, parts_in}
use Rattle.xdb_build.proofs.PlaceLaws.{keys_rise, between_later}
use Rattle.xdb_build.specs.Series.{spans_left}
use Rattle.xdb_build.proofs.series.spans_between.Goals as goal

pub unreachable-requires : goal.unreachable-requires
unreachable-requires c =
    let q = c.index-entries-from.result in
    let p = c.index-entries-to.result in
    let lo : c.in_ok-lo.lo ≡ q.key = c.in_ok-lo.ensures ∙ c.key-2.ensures in
    let hi : c.in_ok-hi.hi ≡ p.key = c.in_ok-hi.ensures ∙ c.key.ensures in
    absurd (false≢true (c.in_default.ensures.ordered ∙ (λ i. is_below (lo i) (hi i)) ∙ keys_rise c.args.entries.now c.args.from c.args.to q p c.requires.ends c.requires.inside c.index-entries-from.is c.index-entries-to.is))

pub returns : goal.returns
returns c =
    let ps = c.args.entries.now in
    let q = c.index-entries-from.result in
    let p = c.index-entries-to.result in
    let lo : c.in_ok-lo.lo ≡ q.key = c.in_ok-lo.ensures ∙ c.key-2.ensures in
    let hi : c.in_ok-hi.hi ≡ p.key = c.in_ok-hi.ensures ∙ c.key.ensures in
    let later : 1 ≤ c.args.from = omega (arith, c.if-from-eq0.false) in
    IfOk-weaker c.clip.result (λ (part : List Tombstone). part ≡ parts_in c.in-Ok.range c.args.spans.now) (λ (part : List Tombstone). (r : Point) → slice_get ps c.args.to ≡ Some r → part ≡ parts_before r.key (spans_left ps c.args.from c.args.spans.now))
    (λ part made. between_later ps c.args.from c.args.to q p c.in-Ok.range c.args.spans.now part later c.requires.ends c.requires.inside c.index-entries-from.is c.index-entries-to.is (c.in-Ok.ensures.made ∙ (λ i. bounds (lo i) (hi i))) made)
    c.clip.ensures.clipped
