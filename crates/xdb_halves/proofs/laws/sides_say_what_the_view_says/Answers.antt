use Rattle.xdb_halves.proofs.SideLaws.{left_says, right_says}
use Rattle.xdb_halves.proofs.laws.sides_say_what_the_view_says.Goals as goal

pub returns-clause-left : goal.returns-clause-left
returns-clause-left c = left_says

pub returns-clause-right : goal.returns-clause-right
returns-clause-right c = right_says
