-- The loop stops where memory is wanting.
use Rattle.xdb_text.proofs.Keeping.{kept-in}
use Rattle.xdb_text.proofs.tables.push_each_count.Goals as goal

pub returns-in_err-push_count-clause-kept : goal.returns-in_err-push_count-clause-kept
returns-in_err-push_count-clause-kept c = kept-in _ _ _ _ _ c.loop-num.invariant c.in_err-push_count.ensures.kept
