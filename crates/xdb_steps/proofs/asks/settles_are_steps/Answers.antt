use Rattle.xdb_steps.proofs.SettleSteps.{none, early, in_parts, whole}
use Rattle.xdb_steps.proofs.asks.settles_are_steps.Goals as goal

pub returns : goal.returns
returns c = record {
  none = λ told c p by ask a client there. none c p by ask a client there;
  early = λ told c p by ask q a client there. early c p by ask a client q there;
  in_parts = λ told c p by ask q answer a client there parted right. in_parts c p by ask a client q there answer right parted;
  whole = λ told c p by ask q answer a client there parted right. whole c p by ask a client q there answer right parted;
}
