-- What is left to answer of `is_buried`.
use Rattle.std.proofs.Common.{ltb, sym, ap, ◌∙◌}
use Rattle.xdb_rangedel.specs.Cover.{cover_of}
use Rattle.xdb_stripes.proofs.FloorLaws.{buried_some, buried_none}
use Rattle.xdb_stripes.proofs.entries.is_buried.Goals as goal

pub returns-in-Some : goal.returns-in-Some
returns-in-Some c =
    ap (λ s. ltb s c.in-Some.seq) c.seq.ensures.seq
    ∙ buried_some c.args.spans.now c.args.entry.now.key c.args.end c.in-Some.seq c.args.entry.now.seq (ap (λ k. cover_of c.args.spans.now k c.args.end) (sym c.key.ensures) ∙ sym c.cover.ensures ∙ c.in-Some.is)

pub returns-in-None : goal.returns-in-None
returns-in-None c =
    buried_none c.args.spans.now c.args.entry.now.key c.args.end c.args.entry.now.seq (ap (λ k. cover_of c.args.spans.now k c.args.end) (sym c.key.ensures) ∙ sym c.cover.ensures ∙ c.in-None.is)
