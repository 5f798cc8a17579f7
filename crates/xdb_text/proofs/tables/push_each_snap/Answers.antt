-- The loop stops where memory is wanting.
use Rattle.xdb_text.proofs.Keeping.{kept-in}
use Rattle.xdb_text.proofs.tables.push_each_snap.Goals as goal

pub returns-in_err-push_snap-clause-kept : goal.returns-in_err-push_snap-clause-kept
returns-in_err-push_snap-clause-kept c = kept-in _ _ _ _ _ c.loop-name.invariant c.in_err-push_snap.ensures.kept
