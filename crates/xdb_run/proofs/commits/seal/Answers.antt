use Rattle.xdb_run.proofs.LineLaws.{seal-takes}
use Rattle.xdb_run.proofs.commits.seal.Goals as goal

pub returns : goal.returns
returns g c = seal-takes c.seal.ensures.note c.seal.ensures.questions
