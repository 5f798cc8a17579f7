-- The law `thinned_is_drawn`, by its lemma.
use Rattle.xdb_stripes.proofs.KeepLaws.{thinned_drawn}
use Rattle.xdb_stripes.proofs.laws.thinned_is_drawn.Goals as goal

pub returns : goal.returns
returns c = thinned_drawn
