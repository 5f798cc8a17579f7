use Rattle.xdb_model.proofs.CauseLaws.{canceller, no_edit}
use Rattle.xdb_model.proofs.causes.cancelled_by_a_load.Goals as goal

pub returns : goal.returns
returns c = record { canceller = canceller; no_edit = no_edit }
