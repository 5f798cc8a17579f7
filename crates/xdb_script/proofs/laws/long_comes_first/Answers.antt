use Rattle.xdb_script.proofs.Scripts.{long-first}
use Rattle.xdb_script.proofs.laws.long_comes_first.Goals as goal

pub returns : goal.returns
returns c = long-first
