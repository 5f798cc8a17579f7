-- What is left to answer of `cover`.
use Rattle.std.proofs.Common.{◌≡◌, true, false, Some, sym, ◌∙◌, ap}
use Rattle.xdb_key.specs.Bounds.{holds}
use Rattle.xdb_rangedel.proofs.PartLaws.{cover_found, cover_not_held, cover_past}
use Rattle.xdb_rangedel.proofs.parts.cover.Goals as goal

pub returns-then-holds : goal.returns-then-holds
returns-then-holds c =
    let held : holds c.index-spans-at.result.range c.args.key.now ≡ true = sym (ap (λ r. holds r c.args.key.now) c.range.ensures) ∙ sym c.holds.ensures ∙ c.if-holds.true in
    ap Some c.seq.ensures.seq ∙ cover_found c.args.key.now c.args.below c.args.spans.now _ _ c.requires c.first_open-at.ensures.split c.if-at-spans.true c.index-spans-at.is held

pub returns-else-holds : goal.returns-else-holds
returns-else-holds c =
    let free : holds c.index-spans-at.result.range c.args.key.now ≡ false = sym (ap (λ r. holds r c.args.key.now) c.range.ensures) ∙ sym c.holds.ensures ∙ c.if-holds.false in
    cover_not_held c.args.key.now c.args.below c.args.spans.now _ _ c.requires c.first_open-at.ensures.split c.if-at-spans.true c.index-spans-at.is free

pub returns-else-at-spans : goal.returns-else-at-spans
returns-else-at-spans c = cover_past c.args.key.now c.args.below c.args.spans.now _ c.requires c.first_open-at.ensures.split c.if-at-spans.false
