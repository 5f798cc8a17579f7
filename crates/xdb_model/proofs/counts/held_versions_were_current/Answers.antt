use Rattle.xdb_model.proofs.HeldLaws.{were-current}
use Rattle.xdb_model.proofs.counts.held_versions_were_current.Goals as goal

pub returns : goal.returns
returns c = were-current
