use Rattle.xdb_steps.proofs.Holding.{step-free}
use Rattle.xdb_steps.proofs.holds.steps_without_holds.Goals as goal

pub returns : goal.returns
returns c = λ told rise x d p by does r tried s none nobody held. step-free s none nobody held
