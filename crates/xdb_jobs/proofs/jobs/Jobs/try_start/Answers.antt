-- The job and its hull join the others, from which they are apart.
use Rattle.xdb_jobs.proofs.JobLaws.{running_started}
use Rattle.xdb_jobs.proofs.jobs.Jobs.try_start.Goals as goal

pub invariant_of-self-2 : goal.invariant_of-self-2
invariant_of-self-2 g c =
    running_started c.self.inside.jobs.items c.args.self.now c.self.inside.hulls.items c.args.job c.in-Ok.hull _ _ c.self.view_is c.self.invariant c.requires.number c.requires.hull c.in-Ok.ensures (rw c.make_room.ensures.jobs at c.in-Ok-push-2.ensures.items) (rw c.make_room.ensures.hulls at c.in-Ok-push.ensures.items)
