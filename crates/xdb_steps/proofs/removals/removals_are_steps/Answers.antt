use Rattle.xdb_steps.proofs.RemovalSteps.{stuck, unremoved}
use Rattle.xdb_steps.proofs.removals.removals_are_steps.Goals as goal

pub returns : goal.returns
returns c = record {
  stuck = λ told x p num a held there. stuck x p a held num there;
  lacking = λ told x p num a held there. unremoved x p a held num there;
}
