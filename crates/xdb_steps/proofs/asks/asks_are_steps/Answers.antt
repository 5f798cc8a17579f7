use Rattle.xdb_steps.proofs.AskSteps.{opened, no_such, too_many, lacking}
use Rattle.xdb_steps.proofs.asks.asks_are_steps.Goals as goal

pub returns : goal.returns
returns c = record {
  opened = λ told c p by question parted l a client now few right. opened c p by question parted l a client now few right;
  no_such = λ told c p by question parted a client then. no_such c p by question parted a client then;
  too_many = λ told c p by question parted a client now many. too_many c p by question parted a client now many;
  lacking = λ told c p by question parted a client now few. lacking c p by question parted a client now few;
}
