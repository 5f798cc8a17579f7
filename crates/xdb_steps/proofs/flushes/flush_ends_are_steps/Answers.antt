use Rattle.xdb_steps.proofs.JobEnds.{ends-in-vain}
use Rattle.xdb_steps.proofs.flushes.flush_ends_are_steps.Goals as goal

pub returns : goal.returns
returns c = λ told x p num r group reply rise tried known a held fit found kind ends booked undamaged were alike.
    ends-in-vain x p num r group reply rise tried known a held fit found kind ends were alike booked undamaged
