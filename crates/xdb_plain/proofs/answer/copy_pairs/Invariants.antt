-- The first pairs are copied.
use Rattle.std.proofs.Common.{◌≡◌, take}
use Rattle.xdb_plain.proofs.answer.copy_pairs.Given as goal

abbrev pub invariant-loop-key : goal.invariant-loop-key
invariant-loop-key l = l.copy.items ≡ take l.key-index l.pairs
