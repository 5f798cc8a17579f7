-- The law `ordered_places_are_layers`, by its lemmas.
use Rattle.xdb_laws.proofs.OrderLaws.{ordered-layers, ordered-upper, ordered-lower, ordered-clear, ordered-together}
use Rattle.xdb_laws.proofs.order.ordered_places_are_layers.Goals as goal

pub returns : goal.returns
returns c = record {
  layers = ordered-layers;
  upper = ordered-upper;
  lower = ordered-lower;
  clear = ordered-clear;
  together = ordered-together;
}
