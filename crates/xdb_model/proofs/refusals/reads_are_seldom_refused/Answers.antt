use Rattle.xdb_model.proofs.RefusalLaws.{read-reply}
use Rattle.xdb_model.proofs.refusals.reads_are_seldom_refused.Goals as goal

pub returns : goal.returns
returns c = read-reply
