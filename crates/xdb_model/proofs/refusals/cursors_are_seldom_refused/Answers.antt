use Rattle.xdb_model.proofs.RefusalLaws.{cursor-reply}
use Rattle.xdb_model.proofs.refusals.cursors_are_seldom_refused.Goals as goal

pub returns : goal.returns
returns c = cursor-reply
