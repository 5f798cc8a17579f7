use Rattle.xdb_model.proofs.JobLaws.{jobs-fit}
use Rattle.xdb_model.proofs.numbers.jobs_are_numbered.Goals as goal

pub returns : goal.returns
returns c = jobs-fit
