use Rattle.xdb_model.proofs.ProgressLaws.{goes-on}
use Rattle.xdb_model.proofs.refusals.states_go_one_way.Goals as goal

pub returns : goal.returns
returns c = goes-on
