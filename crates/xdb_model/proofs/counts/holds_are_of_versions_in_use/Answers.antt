use Rattle.xdb_model.proofs.CountLaws.{held-referenced}
use Rattle.xdb_model.proofs.counts.holds_are_of_versions_in_use.Goals as goal

pub returns : goal.returns
returns c = held-referenced
