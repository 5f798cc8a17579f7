use Rattle.xdb_steps.proofs.SealSteps.{sealed, nothing}
use Rattle.xdb_steps.proofs.commits.seals_are_steps.Goals as goal

pub returns : goal.returns
returns c = record {
  group = λ told c p a e. sealed c p a e;
  nothing = λ told c p a e. nothing c p a e;
}
