use Rattle.xdb_model.proofs.UpkeepLaws.{flush-begins, flush-nothing, flush-replies}
use Rattle.xdb_model.proofs.upkeep.flushes_begin_where_due.Goals as goal

pub returns-clause-begins : goal.returns-clause-begins
returns-clause-begins c = flush-begins

pub returns-clause-nothing : goal.returns-clause-nothing
returns-clause-nothing c = flush-nothing

pub returns-clause-replies : goal.returns-clause-replies
returns-clause-replies c = flush-replies
