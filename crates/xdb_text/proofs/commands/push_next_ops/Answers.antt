-- The loop stops where memory is wanting.
use Rattle.xdb_text.proofs.Keeping.{kept-in}
use Rattle.xdb_text.proofs.commands.push_next_ops.Goals as goal

pub returns-in_err-push_next_op-clause-kept : goal.returns-in_err-push_next_op-clause-kept
returns-in_err-push_next_op-clause-kept c = kept-in _ _ _ _ _ c.loop-op.invariant c.in_err-push_next_op.ensures.kept
