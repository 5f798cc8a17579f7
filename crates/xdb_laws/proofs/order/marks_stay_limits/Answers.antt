-- The law `marks_stay_limits`, by its lemmas.
use Rattle.xdb_laws.proofs.ReplaceLaws.{limits-taken, limits-made}
use Rattle.xdb_laws.proofs.order.marks_stay_limits.Goals as goal

pub returns : goal.returns
returns c = record { taken = limits-taken; made = limits-made }
