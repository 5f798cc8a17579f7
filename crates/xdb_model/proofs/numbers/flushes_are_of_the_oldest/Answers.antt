use Rattle.xdb_model.proofs.FlushLaws.{flushes-fit}
use Rattle.xdb_model.proofs.numbers.flushes_are_of_the_oldest.Goals as goal

pub returns : goal.returns
returns c = flushes-fit
