use Rattle.xdb_model.proofs.ReservedLaws.{reserved-push}
use Rattle.xdb_model.proofs.files.reservations_go_on.Goals as goal

pub returns : goal.returns
returns c = reserved-push
