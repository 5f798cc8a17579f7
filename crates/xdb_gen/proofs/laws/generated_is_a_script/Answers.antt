use Rattle.xdb_gen.proofs.ScriptLaws.{generated-is_script}
use Rattle.xdb_gen.proofs.laws.generated_is_a_script.Goals as goal

pub returns : goal.returns
returns c = generated-is_script
