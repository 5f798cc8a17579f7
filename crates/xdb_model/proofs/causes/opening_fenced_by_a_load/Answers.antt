use Rattle.xdb_model.proofs.CauseLaws.{opening_fenced}
use Rattle.xdb_model.proofs.causes.opening_fenced_by_a_load.Goals as goal

pub returns : goal.returns
returns c = opening_fenced
