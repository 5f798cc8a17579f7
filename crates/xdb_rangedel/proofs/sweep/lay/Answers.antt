-- What is left to answer of `lay`.
use Rattle.std.proofs.Common.{◌≡◌, ◌-◌, length, ◌∙◌, ap, arith}
use Rattle.xdb_key.specs.Order.{is_below}
use Rattle.std.proofs.lemmas.List.{get_or_default}
use Rattle.xdb_rangedel.specs.Sweep.{laid}
use Rattle.xdb_rangedel.proofs.sweep.lay.Goals as goal

pub lay_gap-requires : goal.lay_gap-requires
lay_gap-requires c =
    let bs = c.args.bounds.now in
    let hi = c.index-bounds-end-in-loop-end.result in
    let step = c.requires.rising (c.loop-end.end - 1) c.loop-end.end hi (omega arith) (omega arith) in
    ap (λ x. is_below x hi) (c.index-bounds-end.is ∙ get_or_default bs (c.loop-end.end - 1) c.index-bounds-end.result hi (omega arith))
    ∙ ap (is_below _) c.index-bounds-end-in-loop-end.is ∙ step

pub returns : goal.returns
returns c =
    let last : c.loop-end.end - 1 ≡ length c.args.bounds.now - 1 = omega arith in
    c.loop-end.invariant.1 ∙ ap (laid c.args.bounds.now c.args.columns.now) last
