-- The law `loads_edit_levels`, by its lemmas.
use Rattle.xdb_laws.proofs.LoadEditLaws.{edit-installs, edit-numbers}
use Rattle.xdb_laws.proofs.StandLaws.{edit-ordered}
use Rattle.xdb_laws.proofs.loads.loads_edit_levels.Goals as goal

pub returns : goal.returns
returns c = record { install = edit-installs; order = edit-ordered; numbers = edit-numbers }
