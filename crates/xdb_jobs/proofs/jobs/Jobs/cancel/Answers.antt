-- Neither number nor hull changes.
use Rattle.std.proofs.Common.{◌∙◌, ap, map, arith}
use Rattle.xdb_jobs.specs.Running.{with_canceller}
use Rattle.xdb_jobs.proofs.JobLaws.{running_cancelled_back}
use Rattle.xdb_jobs.proofs.jobs.Jobs.cancel.Goals as goal

pub invariant_of-self : goal.invariant_of-self
invariant_of-self g c =
    running_cancelled_back c.args.load c.args.span.now c.self.inside.jobs.items c.cancel_all.new.jobs c.self.inside.hulls.items _ c.self.invariant (omega (arith, c.self.inside.jobs.ok.0)) (c.cancel_all.ensures ∙ ap (map (with_canceller c.args.load c.args.span.now)) c.deref_mut.ensures.value)
