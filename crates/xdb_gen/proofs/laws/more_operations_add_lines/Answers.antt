use Rattle.xdb_gen.proofs.ScriptLaws.{generated-more}
use Rattle.xdb_gen.proofs.laws.more_operations_add_lines.Goals as goal

pub returns : goal.returns
returns c = generated-more
