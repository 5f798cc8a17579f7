use Rattle.xdb_steps.proofs.RemovalSteps.{nothing, took}
use Rattle.xdb_steps.proofs.removals.reaps_are_steps.Goals as goal

pub returns : goal.returns
returns c = record {
  nothing = λ told x p a held none. nothing x p a held none;
  took = λ told x p n others taken a held least alike. took x p a held n others taken least alike;
}
