use Rattle.std.proofs.Common.{refl}
use Rattle.xdb_steps.specs.Core.{running_job}
use Rattle.xdb_steps.proofs.JobLaws.{due-is, job-found}
use Rattle.xdb_steps.proofs.counts.parts_tell_of_jobs.Goals as goal

pub returns : goal.returns
returns c = record {
  flush_due = due-is;
  job = λ x p num a. job-found x p a num (running_job num x.jobs) refl;
}
