use Rattle.xdb_table_r.proofs.SpelledLaws.{spelled_so}
use Rattle.xdb_table_r.proofs.laws.table_is_spelled_so.Goals as goal

pub returns : goal.returns
returns c = spelled_so
