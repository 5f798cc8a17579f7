-- The law is a lemma.
use Rattle.std.proofs.Common.{IsTrue}
use Rattle.xdb_merge.proofs.TableLaws.{others_say_nothing}
use Rattle.xdb_merge.proofs.laws.others_say_nothing.Goals as goal

pub returns : goal.returns
returns g c = others_say_nothing g.F.FileRef.bytes
