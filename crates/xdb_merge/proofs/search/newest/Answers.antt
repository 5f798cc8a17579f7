-- The layer at the index joins those before it.
use Rattle.xdb_merge.proofs.LayerLaws.{newest_more}
use Rattle.xdb_merge.proofs.search.newest.Goals as goal

pub loop-layer-preserved : goal.loop-layer-preserved
loop-layer-preserved c = newest_more c.args.at c.args.key.now c.args.layers.now c.loop-layer.layer-index c.layer-item.result _ _ _ c.loop-layer-test.true c.layer-item.is c.first_seen.ensures.sorted c.loop-layer.invariant c.first_seen.ensures.first c.newer-best.ensures
