-- One more is as the load leaves it.
use Rattle.std.proofs.Common.{slice_set, sym, ap, ◌∙◌}
use Rattle.std.proofs.lemmas.List.Edits.{map_over_more}
use Rattle.xdb_snap.specs.Changes.{excised}
use Rattle.xdb_snap.proofs.listed.excise.Goals as goal

pub loop-snap-preserved : goal.loop-snap-preserved
loop-snap-preserved g c =
    ap (λ s. slice_set c.loop-snap.snap-items c.loop-snap.snap-index s) c.excise_one.ensures
    ∙ ap (λ s. slice_set c.loop-snap.snap-items c.loop-snap.snap-index (excised c.args.load c.args.span.now s)) (sym c.snap-item.is)
    ∙ map_over_more (excised c.args.load c.args.span.now) c.deref_mut-snap-items.result.now c.loop-snap.snap-items c.loop-snap.snap-index c.snap-item.result c.loop-snap-test.true c.loop-snap.invariant c.snap-item.is
