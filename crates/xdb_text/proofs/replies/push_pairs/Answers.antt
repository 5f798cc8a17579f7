-- The loop stops where memory is wanting.
use Rattle.xdb_text.proofs.Keeping.{kept-in}
use Rattle.xdb_text.proofs.replies.push_pairs.Goals as goal

pub returns-in_err-push_pair-clause-kept : goal.returns-in_err-push_pair-clause-kept
returns-in_err-push_pair-clause-kept c = kept-in _ _ _ _ _ c.loop-key.invariant c.in_err-push_pair.ensures.kept
