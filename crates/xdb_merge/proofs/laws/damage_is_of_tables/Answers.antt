-- The law is a lemma.
use Rattle.xdb_merge.proofs.TableLaws.{damage_is_of_tables}
use Rattle.xdb_merge.proofs.laws.damage_is_of_tables.Goals as goal

pub returns : goal.returns
returns g c = damage_is_of_tables g.F.FileRef.bytes
