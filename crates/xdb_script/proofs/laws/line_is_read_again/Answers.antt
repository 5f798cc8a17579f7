use Rattle.xdb_script.proofs.Lines.{line-again}
use Rattle.xdb_script.proofs.laws.line_is_read_again.Goals as goal

pub returns : goal.returns
returns c = line-again
