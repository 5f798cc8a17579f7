-- The law `tables_keep_to_their_bounds`, by its lemmas.
use Rattle.xdb_laws.proofs.ExciseLaws.{keeps-view}
use Rattle.xdb_laws.proofs.HandLaws.{levels-tables}
use Rattle.xdb_laws.proofs.questions.tables_keep_to_their_bounds.Goals as goal

pub returns : goal.returns
returns c = record { levels = levels-tables; bounds = keeps-view }
