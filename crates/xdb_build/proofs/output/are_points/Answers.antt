-- What is left to answer of `are_points`.
use Rattle.std.proofs.Common.{◌∷◌, ◌++◌, [], take, sym, ap, ◌∙◌, subst}
use Rattle.std.proofs.lemmas.List.{take_more, take_all}
use Rattle.std.proofs.lemmas.List.Elements.{All-push}
use Rattle.std.specs.List.{All}
use Rattle.xdb_key.specs.Entries.{IsPoint}
use Rattle.xdb_build.proofs.output.are_points.Goals as goal

pub loop-entry-preserved : goal.loop-entry-preserved
loop-entry-preserved c =
    let so_far = take c.loop-entry.entry-index c.args.entries.now in
    let more = take_more c.args.entries.now c.loop-entry.entry-index c.entry-item.result c.loop-entry-test.true ∙ ap (λ p. so_far ++ p ∷ []) (sym c.entry-item.is) in
    subst (All IsPoint) (sym more) (All-push IsPoint so_far c.entry-item.result c.loop-entry.invariant c.seq.ensures.point)

pub returns-clause-points : goal.returns-clause-points
returns-clause-points c = subst (All IsPoint) (take_all c.loop-entry.entry-index c.args.entries.now c.loop-entry-test.false) c.loop-entry.invariant
