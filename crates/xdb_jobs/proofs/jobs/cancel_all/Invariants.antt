-- The jobs before the index are done.
use Rattle.std.proofs.Common.{◌≡◌, ◌++◌, map, take, drop}
use Rattle.xdb_jobs.specs.Running.{with_canceller}
use Rattle.xdb_jobs.proofs.jobs.cancel_all.Given as goal

abbrev pub invariant-loop-job : goal.invariant-loop-job
invariant-loop-job g l = l.jobs ≡ map (with_canceller l.load l.span) (take l.job-index l.fn.jobs) ++ drop l.job-index l.fn.jobs
