use Rattle.xdb_script.proofs.Lines.{line-is}
use Rattle.xdb_script.proofs.laws.line_is_spelled_so.Goals as goal

pub returns : goal.returns
returns c = line-is
