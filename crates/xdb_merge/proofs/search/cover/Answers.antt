-- The layer at the index joins those before it.
use Rattle.xdb_merge.proofs.LayerLaws.{cover_more}
use Rattle.xdb_merge.proofs.search.cover.Goals as goal

pub loop-layer-preserved : goal.loop-layer-preserved
loop-layer-preserved c = cover_more c.args.at c.args.key.now c.args.layers.now c.loop-layer.layer-index c.layer-item.result _ _ _ c.loop-layer-test.true c.layer-item.is c.loop-layer.invariant c.cover.ensures c.greater_number-best.ensures
