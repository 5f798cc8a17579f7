use Rattle.xdb_model.proofs.CauseLaws.{waits}
use Rattle.xdb_model.proofs.causes.waits_for_a_group.Goals as goal

pub returns : goal.returns
returns c = waits
