use Rattle.xdb_steps.proofs.HoldSteps.{opened-held, lacking-held}
use Rattle.xdb_steps.proofs.holds.asks_hold.Goals as goal

pub returns : goal.returns
returns c = record {
  opened = λ told x p by question parted l id holds a held client now few right new same. opened-held x p by question parted l id holds a held client now few right new same;
  lacking = λ told x p by question parted a held client now few. lacking-held x p by question parted a held client now few;
}
