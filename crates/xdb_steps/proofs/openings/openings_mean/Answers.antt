use Rattle.xdb_steps.proofs.OpeningLaws.{opening-means}
use Rattle.xdb_steps.proofs.openings.openings_mean.Goals as goal

pub returns : goal.returns
returns c = opening-means
