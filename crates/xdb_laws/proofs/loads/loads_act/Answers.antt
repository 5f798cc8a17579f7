-- The law `loads_act`, by its lemmas.
use Rattle.xdb_laws.proofs.InstallLaws.{install-image, install-marks, install-numbers, install-clear}
use Rattle.xdb_laws.proofs.loads.loads_act.Goals as goal

pub returns : goal.returns
returns c = record { image = install-image; marks = install-marks; numbers = install-numbers; clear = install-clear }
