-- What is left to answer of `stays`.
use Rattle.std.proofs.Common.{◌≡◌, true, false, not, ◌||◌, sym, ap, ◌∙◌}
use Rattle.std.specs.List.{list_any}
use Rattle.xdb_stripes.specs.Steps.{buries_entry, is_lost_delete}
use Rattle.xdb_stripes.proofs.EntryLaws.{buries-ended}
use Rattle.xdb_stripes.proofs.entries.stays.Goals as goal

pub returns-then-not-is_buried : goal.returns-then-not-is_buried
returns-then-not-is_buried c =
    let buried = buries-ended c.args.stripes.now c.args.entry.now c.args.end c.args.spans.now c.requires.end c.list-spans.ensures.small in
    let none : list_any (buries_entry c.args.stripes.now c.args.entry.now) c.args.spans.now ≡ false = sym buried ∙ sym c.is_buried.ensures ∙ c.if-not-is_buried.true in
    λ i. not (sym none i || c.is_spent.ensures i)

pub returns-else-not-is_buried : goal.returns-else-not-is_buried
returns-else-not-is_buried c =
    let buried = buries-ended c.args.stripes.now c.args.entry.now c.args.end c.args.spans.now c.requires.end c.list-spans.ensures.small in
    let one : list_any (buries_entry c.args.stripes.now c.args.entry.now) c.args.spans.now ≡ true = sym buried ∙ sym c.is_buried.ensures ∙ c.if-not-is_buried.false in
    ap not c.if-not-is_buried.false ∙ (λ i. not (sym one i || is_lost_delete c.args.stripes.now c.args.floor.now c.args.entry.now))
