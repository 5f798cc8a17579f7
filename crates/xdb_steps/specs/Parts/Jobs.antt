-- RunningJob jobs.
use Rattle.std.specs.Prelude.{◌≡◌, List, map}
use Rattle.xdb_plain.specs.State.{Job}
use Rattle.xdb_steps.specs.Core.{RunningJob}

-- The jobs are the plain ones, in order.
pub record JobsAgree (jobs : List RunningJob) (plain : List Job) : Type 0 where
  pub same : plain ≡ map (λ r. r.job) jobs
