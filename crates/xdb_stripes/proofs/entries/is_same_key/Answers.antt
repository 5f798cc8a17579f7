-- What is left to answer of `is_same_key`.
use Rattle.xdb_stripes.proofs.EntryLaws.{same_key-is}
use Rattle.xdb_stripes.proofs.entries.is_same_key.Goals as goal

pub returns : goal.returns
returns c = same_key-is c.args.a.now c.args.b.now c.same.result c.same.ensures.0 c.same.ensures.1
