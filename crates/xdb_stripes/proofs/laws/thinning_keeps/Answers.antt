-- The law `thinning_keeps`, by its lemma.
use Rattle.xdb_stripes.proofs.KeepLaws.{keeps}
use Rattle.xdb_stripes.proofs.laws.thinning_keeps.Goals as goal

pub returns : goal.returns
returns c = keeps
