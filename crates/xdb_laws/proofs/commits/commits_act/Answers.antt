-- The law `commits_act`, by its lemmas.
use Rattle.xdb_laws.proofs.CommitLaws.{committed}
use Rattle.xdb_laws.proofs.commits.commits_act.Goals as goal

pub returns : goal.returns
returns c = record { image = λ x n m ops is low. (committed x n m ops is low).image; below = λ x n m ops is low. (committed x n m ops is low).below }
