use Rattle.xdb_model.proofs.QuestionLaws.{questions-fit}
use Rattle.xdb_model.proofs.numbers.questions_are_numbered.Goals as goal

pub returns : goal.returns
returns c = questions-fit
