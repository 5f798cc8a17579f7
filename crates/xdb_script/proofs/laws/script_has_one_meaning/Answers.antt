use Rattle.xdb_script.proofs.Scripts.{lines-are-one}
use Rattle.xdb_script.proofs.laws.script_has_one_meaning.Goals as goal

pub returns : goal.returns
returns c = lines-are-one
