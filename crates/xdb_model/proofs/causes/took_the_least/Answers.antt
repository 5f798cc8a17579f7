use Rattle.xdb_model.proofs.CauseLaws.{took}
use Rattle.xdb_model.proofs.causes.took_the_least.Goals as goal

pub returns : goal.returns
returns c = took
