use Rattle.xdb_halves.proofs.SideLaws.{none_there}
use Rattle.xdb_halves.proofs.laws.half_is_there_where_something_is.Goals as goal

pub returns : goal.returns
returns c = none_there
