use Rattle.xdb_steps.proofs.CommitSteps.{done, lacking, spent}
use Rattle.xdb_steps.proofs.commits.commits_are_steps.Goals as goal

pub returns : goal.returns
returns c = record {
  done = λ told c p by form ops a client room. done c p by form ops a client room;
  lacking = λ told c p by form ops a client room. lacking c p by form ops a client room;
  spent = λ told c p by form ops a client many. spent c p by form ops a client many;
}
