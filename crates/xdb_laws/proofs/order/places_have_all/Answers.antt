-- The law `places_have_all`, by its lemmas.
use Rattle.xdb_laws.proofs.PlaceLaws.{places-same, places-clear, places-split, groups-operations}
use Rattle.xdb_laws.proofs.order.places_have_all.Goals as goal

pub returns : goal.returns
returns c = record {
  members = places-same;
  clear = places-clear;
  split = places-split;
  operations = groups-operations;
}
