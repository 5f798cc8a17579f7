-- Edits name the levels of a version.
use Rattle.xdb_levels.proofs.EditLaws.{edit_names_below}
use Rattle.xdb_levels.proofs.laws.edits_name_levels.Goals as goal

pub returns : goal.returns
returns c = edit_names_below
