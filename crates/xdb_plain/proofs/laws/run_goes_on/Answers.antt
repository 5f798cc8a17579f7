use Rattle.xdb_plain.proofs.RunLaws.{blocks-push, behind-push, state-over, run-ends}
use Rattle.xdb_plain.proofs.laws.run_goes_on.Goals as goal

pub returns : goal.returns
returns c = record { blocks = blocks-push; behind = behind-push; state = state-over; ends = run-ends }
