use Rattle.xdb_model.proofs.KnownLaws.{taken-fit}
use Rattle.xdb_model.proofs.numbers.taken_numbers_are_given_to_none.Goals as goal

pub returns : goal.returns
returns c = taken-fit
