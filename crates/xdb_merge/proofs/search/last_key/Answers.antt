-- The layer at the index joins those before it.
use Rattle.xdb_merge.specs.Search.{is_before}
use Rattle.xdb_merge.proofs.LayerLaws.{last_more}
use Rattle.xdb_merge.proofs.search.last_key.Goals as goal

pub loop-layer-preserved : goal.loop-layer-preserved
loop-layer-preserved c = last_more (is_before c.args.end.now) c.args.layers.now c.loop-layer.layer-index c.layer-item.result _ _ _ c.loop-layer-test.true c.layer-item.is c.loop-layer.invariant c.last_before.ensures c.greater-best.ensures
