use Rattle.xdb_model.proofs.TakenLaws.{taken-once}
use Rattle.xdb_model.proofs.numbers.numbers_are_taken_once.Goals as goal

pub returns : goal.returns
returns c = taken-once
