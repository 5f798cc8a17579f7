-- The loop stops where memory is wanting.
use Rattle.xdb_text.proofs.Keeping.{kept-in}
use Rattle.xdb_text.proofs.commands.push_ranges.Goals as goal

pub returns-in_err-push_range-clause-kept : goal.returns-in_err-push_range-clause-kept
returns-in_err-push_range-clause-kept c = kept-in _ _ _ _ _ c.loop-range.invariant c.in_err-push_range.ensures.kept
