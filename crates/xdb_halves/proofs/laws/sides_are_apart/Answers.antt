use Rattle.xdb_halves.proofs.SideLaws.{left_apart, right_apart}
use Rattle.xdb_halves.proofs.laws.sides_are_apart.Goals as goal

pub returns-clause-left : goal.returns-clause-left
returns-clause-left c = left_apart

pub returns-clause-right : goal.returns-clause-right
returns-clause-right c = right_apart
