use Rattle.xdb_script.proofs.Scripts.{script-again}
use Rattle.xdb_script.proofs.laws.script_is_read_again.Goals as goal

pub returns : goal.returns
returns c = script-again
