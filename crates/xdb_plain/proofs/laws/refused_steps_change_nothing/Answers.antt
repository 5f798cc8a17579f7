use Rattle.xdb_plain.proofs.RefusalLaws.{refused-after, stays-no_holds}
use Rattle.xdb_plain.proofs.laws.refused_steps_change_nothing.Goals as goal

pub returns : goal.returns
returns c = record { same = refused-after; no_holds = stays-no_holds }
