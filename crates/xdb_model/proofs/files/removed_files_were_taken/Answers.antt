use Rattle.xdb_model.proofs.RemovalLaws.{removed-taken, removed-not_left, taken-state, removed-once}
use Rattle.xdb_model.proofs.files.removed_files_were_taken.Goals as goal

pub returns-clause-taken : goal.returns-clause-taken
returns-clause-taken c = removed-taken

pub returns-clause-not_left : goal.returns-clause-not_left
returns-clause-not_left c = removed-not_left

pub returns-clause-state : goal.returns-clause-state
returns-clause-state c = taken-state

pub returns-clause-once : goal.returns-clause-once
returns-clause-once c = removed-once
