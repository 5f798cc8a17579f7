-- The job at the index is done.
use Rattle.std.proofs.Common.{arith}
use Rattle.xdb_jobs.proofs.JobLaws.{cancelled_more}
use Rattle.xdb_jobs.proofs.jobs.cancel_all.Goals as goal

pub loop-job-preserved : goal.loop-job-preserved
loop-job-preserved g c =
    cancelled_more c.args.load c.args.span.now c.args.jobs.now c.loop-job.jobs c.loop-job.job-index c.job-item.result c.cancel.new.self (omega arith) c.loop-job.invariant c.job-item.is c.cancel.ensures
