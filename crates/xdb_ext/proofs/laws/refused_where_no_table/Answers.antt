-- The law `refused_where_no_table`, by its lemma.
use Rattle.xdb_ext.proofs.ContentLaws.{no_refusal}
use Rattle.xdb_ext.proofs.laws.refused_where_no_table.Goals as goal

pub returns : goal.returns
returns c = no_refusal
