-- The loop stops where memory is wanting.
use Rattle.xdb_text.proofs.Keeping.{kept-in}
use Rattle.xdb_text.proofs.words.push_spelled.Goals as goal

pub returns-in_err-push_byte-clause-kept : goal.returns-in_err-push_byte-clause-kept
returns-in_err-push_byte-clause-kept c = kept-in _ _ _ _ _ c.loop-byte.invariant c.in_err-push_byte.ensures.kept
