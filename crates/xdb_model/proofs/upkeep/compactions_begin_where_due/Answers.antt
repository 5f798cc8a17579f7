use Rattle.xdb_model.proofs.UpkeepLaws.{compact-begins, compact-nothing, compact-replies}
use Rattle.xdb_model.proofs.upkeep.compactions_begin_where_due.Goals as goal

pub returns-clause-begins : goal.returns-clause-begins
returns-clause-begins c = compact-begins

pub returns-clause-nothing : goal.returns-clause-nothing
returns-clause-nothing c = compact-nothing

pub returns-clause-replies : goal.returns-clause-replies
returns-clause-replies c = compact-replies
