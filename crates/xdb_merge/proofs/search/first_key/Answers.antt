-- The layer at the index joins those before it.
use Rattle.xdb_merge.specs.Search.{is_from}
use Rattle.xdb_merge.proofs.LayerLaws.{first_more}
use Rattle.xdb_merge.proofs.search.first_key.Goals as goal

pub loop-layer-preserved : goal.loop-layer-preserved
loop-layer-preserved c = first_more (is_from c.args.edge) c.args.layers.now c.loop-layer.layer-index c.layer-item.result _ _ _ c.loop-layer-test.true c.layer-item.is c.loop-layer.invariant c.first_from.ensures c.lesser-best.ensures
