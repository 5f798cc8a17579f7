use Rattle.xdb_model.proofs.InputLaws.{edits-apply}
use Rattle.xdb_model.proofs.versions.edits_apply.Goals as goal

pub returns : goal.returns
returns c = edits-apply
