use Rattle.xdb_key.proofs.NameLaws.{IsKept-filled}
use Rattle.std.proofs.Common.{sym, ◌∙◌}
use Rattle.xdb_key.proofs.name.Name.new.Goals as goal

pub invariant_of-result : goal.invariant_of-result
invariant_of-result c = rw c.copy_from_slice.ensures.after (IsKept-filled c.args.bytes.now (sym c.is_name.ensures ∙ c.if-not-is_name.false))
