-- The law `cut_tables_keep_order`, by its lemmas.
use Rattle.xdb_laws.proofs.CutLaws.{cut-places, cut-stands}
use Rattle.xdb_laws.proofs.excises.cut_tables_keep_order.Goals as goal

pub returns : goal.returns
returns c = record { order = cut-places; number = cut-stands }
