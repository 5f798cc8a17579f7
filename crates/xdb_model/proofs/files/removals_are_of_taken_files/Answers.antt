use Rattle.xdb_model.proofs.RemovalLaws.{taking, removing, left-taken}
use Rattle.xdb_model.proofs.files.removals_are_of_taken_files.Goals as goal

pub returns-clause-taking : goal.returns-clause-taking
returns-clause-taking c = taking

pub returns-clause-removing : goal.returns-clause-removing
returns-clause-removing c = removing

pub returns-clause-left : goal.returns-clause-left
returns-clause-left c = left-taken
