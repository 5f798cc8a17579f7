use Rattle.xdb_model.proofs.ExcisedLaws.{explained}
use Rattle.xdb_model.proofs.refusals.refusals_are_explained.Goals as goal

pub returns : goal.returns
returns c = explained
