-- What is read is spelled so.
use Rattle.xdb_edit.proofs.EditLaws.{edit_takes}
use Rattle.xdb_edit.proofs.laws.edit_is_spelled_so.Goals as goal

pub returns : goal.returns
returns c = edit_takes
