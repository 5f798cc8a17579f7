-- The loop stops where memory is wanting.
use Rattle.xdb_text.proofs.Keeping.{kept-in}
use Rattle.xdb_text.proofs.tables.push_tables.Goals as goal

pub returns-in_err-push_table-clause-kept : goal.returns-in_err-push_table-clause-kept
returns-in_err-push_table-clause-kept c = kept-in _ _ _ _ _ c.loop-table.invariant c.in_err-push_table.ensures.kept
