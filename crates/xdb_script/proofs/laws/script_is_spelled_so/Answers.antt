use Rattle.xdb_script.proofs.Scripts.{script-is}
use Rattle.xdb_script.proofs.laws.script_is_spelled_so.Goals as goal

pub returns : goal.returns
returns c = script-is
