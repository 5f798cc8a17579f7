use Rattle.xdb_model.proofs.GroupLaws.{groups-fit}
use Rattle.xdb_model.proofs.numbers.groups_are_numbered.Goals as goal

pub returns : goal.returns
returns c = groups-fit
