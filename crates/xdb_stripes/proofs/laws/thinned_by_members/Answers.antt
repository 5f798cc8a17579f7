-- The law `thinned_by_members`, by its lemma.
use Rattle.xdb_stripes.proofs.KeepLaws.{thinned_same}
use Rattle.xdb_stripes.proofs.laws.thinned_by_members.Goals as goal

pub returns : goal.returns
returns c = thinned_same
