use Rattle.xdb_model.proofs.LevelLaws.{levels-fit}
use Rattle.xdb_model.proofs.numbers.levels_are_sorted.Goals as goal

pub returns : goal.returns
returns c = levels-fit
