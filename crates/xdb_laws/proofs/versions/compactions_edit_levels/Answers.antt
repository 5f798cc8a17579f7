-- The law `compactions_edit_levels`, by its lemmas.
use Rattle.xdb_laws.proofs.EditLaws.{edit-ordered, edit-image, edit-numbers}
use Rattle.xdb_laws.proofs.versions.compactions_edit_levels.Goals as goal

pub returns : goal.returns
returns c = record { order = edit-ordered; image = edit-image; numbers = edit-numbers }
