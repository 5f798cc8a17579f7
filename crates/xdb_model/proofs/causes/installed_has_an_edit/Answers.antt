use Rattle.xdb_model.proofs.CauseLaws.{has_edit}
use Rattle.xdb_model.proofs.causes.installed_has_an_edit.Goals as goal

pub returns : goal.returns
returns c = has_edit
