-- The law `bounds_keep_apart`, by its lemmas.
use Rattle.xdb_laws.proofs.CompactLaws.{bounds-apart, bounds-floor}
use Rattle.xdb_laws.proofs.compactions.bounds_keep_apart.Goals as goal

pub returns : goal.returns
returns c = record { apart = bounds-apart; floor = bounds-floor }
