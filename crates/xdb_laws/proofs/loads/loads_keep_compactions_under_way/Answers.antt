-- The law `loads_keep_compactions_under_way`, by its lemmas.
use Rattle.xdb_laws.proofs.LoadUnderWayLaws.{load-under_way, load-inputs}
use Rattle.xdb_laws.proofs.loads.loads_keep_compactions_under_way.Goals as goal

pub returns : goal.returns
returns c = record {
  under_way = λ content groups x level inputs given floor hull is. load-under_way content groups x is level inputs given floor hull;
  inputs = load-inputs;
}
