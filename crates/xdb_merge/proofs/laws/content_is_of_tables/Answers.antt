-- The law is a lemma.
use Rattle.xdb_merge.proofs.TableLaws.{content_is_of_tables}
use Rattle.xdb_merge.proofs.laws.content_is_of_tables.Goals as goal

pub returns : goal.returns
returns g c = content_is_of_tables g.F.FileRef.bytes
