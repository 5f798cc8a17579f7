-- The law `bounds_are_one`, by its lemma.
use Rattle.xdb_ext.proofs.ContentLaws.{bounds_one}
use Rattle.xdb_ext.proofs.laws.bounds_are_one.Goals as goal

pub returns : goal.returns
returns c = bounds_one
