-- The law `flushes_edit_l0`, by its lemmas.
use Rattle.xdb_laws.proofs.EditLaws.{flush-edit}
use Rattle.xdb_laws.proofs.versions.flushes_edit_l0.Goals as goal

pub returns : goal.returns
returns c = flush-edit
