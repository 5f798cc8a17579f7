use Rattle.xdb_model.proofs.UpkeepLaws.{quiet-where, quiet-tells}
use Rattle.xdb_model.proofs.upkeep.nothing_due_is_quiet.Goals as goal

pub returns-clause-quiet : goal.returns-clause-quiet
returns-clause-quiet c = quiet-where

pub returns-clause-none_due : goal.returns-clause-none_due
returns-clause-none_due c = quiet-tells
