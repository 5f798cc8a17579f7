-- The law `layers`, by its lemmas.
use Rattle.xdb_rangedel.proofs.LayerLaws.{newer-over, verdict_layered, newest_layers_swapped, verdict_replaced}
use Rattle.xdb_rangedel.proofs.laws.layers.Goals as goal

pub returns : goal.returns
returns c = record { newer = newer-over; layered = verdict_layered; swapped = newest_layers_swapped; replaced = verdict_replaced }
