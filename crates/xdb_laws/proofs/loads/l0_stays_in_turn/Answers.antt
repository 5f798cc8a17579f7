-- The law `l0_stays_in_turn`, by its lemmas.
use Rattle.xdb_laws.proofs.TurnLaws.{sorted-turn, loaded-ties, more-ties}
use Rattle.xdb_laws.proofs.loads.l0_stays_in_turn.Goals as goal

pub returns : goal.returns
returns c = record { turn = sorted-turn; loaded = loaded-ties; other = more-ties }
