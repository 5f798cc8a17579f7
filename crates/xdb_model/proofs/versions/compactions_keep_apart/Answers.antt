use Rattle.xdb_model.proofs.InputLaws.{compactions-fit}
use Rattle.xdb_model.proofs.versions.compactions_keep_apart.Goals as goal

pub returns : goal.returns
returns c = compactions-fit
