use Rattle.xdb_model.proofs.CauseLaws.{fenced}
use Rattle.xdb_model.proofs.causes.fenced_by_a_load.Goals as goal

pub returns : goal.returns
returns c = fenced
