use Rattle.xdb_steps.proofs.FailureSteps.{in_parts, whole, no_such}
use Rattle.xdb_steps.proofs.asks.failures_are_steps.Goals as goal

pub returns : goal.returns
returns c = record {
  in_parts = λ told c p ask q r rise a there ends booked undamaged parted. in_parts c p ask q r rise a there ends booked undamaged parted;
  whole = λ told c p ask q r rise a there ends booked undamaged parted. whole c p ask q r rise a there ends booked undamaged parted;
  no_such = λ told c p work a is. no_such c p work a is;
}
