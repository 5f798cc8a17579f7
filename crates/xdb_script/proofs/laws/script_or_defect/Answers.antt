use Rattle.xdb_script.proofs.Scripts.{no-defect, spelled-without-defect}
use Rattle.xdb_script.proofs.laws.script_or_defect.Goals as goal

pub returns-clause-not_both : goal.returns-clause-not_both
returns-clause-not_both c = no-defect

pub returns-clause-not_neither : goal.returns-clause-not_neither
returns-clause-not_neither c = spelled-without-defect
