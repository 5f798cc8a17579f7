-- The first pairs are copied.
use Rattle.std.proofs.Common.{◌≡◌, take}
use Rattle.xdb_edit.proofs.edit.copy_added.Given as goal

abbrev pub invariant-loop-level : goal.invariant-loop-level
invariant-loop-level l = l.copy.items ≡ take l.level-index l.added
