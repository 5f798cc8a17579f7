-- The load has no fence yet.
use Rattle.std.proofs.Common.{ap, ◌∙◌}
use Rattle.xdb_jobs.specs.Fencing.{found_fence}
use Rattle.xdb_jobs.proofs.FenceLaws.{loads_differ_pushed}
use Rattle.xdb_jobs.proofs.fences.Fences.open.Goals as goal

pub invariant_of-self-2 : goal.invariant_of-self-2
invariant_of-self-2 c =
    rw c.in_ok-push.ensures.items (loads_differ_pushed c.self.inside.fences.items _ c.self.invariant (ap (found_fence c.args.load) c.self.view_is ∙ c.requires))
