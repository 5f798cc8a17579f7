-- What is spelled is read again.
use Rattle.xdb_edit.proofs.EditLaws.{edit_again}
use Rattle.xdb_edit.proofs.laws.edit_is_read_again.Goals as goal

pub returns : goal.returns
returns c = edit_again
