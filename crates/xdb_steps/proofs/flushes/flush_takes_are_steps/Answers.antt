use Rattle.xdb_steps.proofs.FlushSteps.{nothing, spent, lacking, taken}
use Rattle.xdb_steps.proofs.flushes.flush_takes_are_steps.Goals as goal

pub returns : goal.returns
returns c = record {
  nothing = λ told x p a held e. nothing x p a held e;
  spent = λ told x p a held e many. spent x p a held e many;
  lacking = λ told x p a held e room. lacking x p a held e room;
  taken = λ told x p group content stripes a held oldest e room. taken x p a held group content stripes oldest e room;
}
