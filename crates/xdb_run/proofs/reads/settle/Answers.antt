use Rattle.xdb_run.proofs.QuestionLaws.{settle-takes}
use Rattle.xdb_run.proofs.reads.settle.Goals as goal

pub returns : goal.returns
returns g c = settle-takes c.requires.ready.knows c.settle.ensures.note c.settle.ensures.reply c.settle.ensures.questions
