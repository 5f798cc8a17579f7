use Rattle.xdb_script.proofs.Scripts.{spelled-script}
use Rattle.xdb_script.proofs.laws.spelled_lines_are_a_script.Goals as goal

pub returns : goal.returns
returns c = spelled-script
