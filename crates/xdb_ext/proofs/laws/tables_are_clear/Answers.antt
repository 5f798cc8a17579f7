-- The law `tables_are_clear`, by its lemma.
use Rattle.xdb_ext.proofs.ContentLaws.{is_clear}
use Rattle.xdb_ext.proofs.laws.tables_are_clear.Goals as goal

pub returns : goal.returns
returns c = is_clear
