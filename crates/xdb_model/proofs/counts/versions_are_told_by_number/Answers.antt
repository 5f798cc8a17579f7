use Rattle.xdb_model.proofs.InUseLaws.{versions-told}
use Rattle.xdb_model.proofs.counts.versions_are_told_by_number.Goals as goal

pub returns : goal.returns
returns c = versions-told
