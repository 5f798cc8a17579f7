use Rattle.xdb_plain.proofs.FailureLaws.{faults-append, has_damage-append, is_faultless-append, faultless_has_none, none_is_faultless}
use Rattle.xdb_plain.proofs.laws.failures_add_up.Goals as goal

pub returns : goal.returns
returns c = record { faults = faults-append; damage = has_damage-append; faultless = is_faultless-append; tells_none = faultless_has_none; only = none_is_faultless }
