-- The first pairs are printed.
use Rattle.std.proofs.Common.{◌≡◌, ◌++◌, map, take}
use Rattle.xdb_plain.specs.Printed.{spaced, pair_word}
use Rattle.xdb_text.proofs.replies.push_pairs.Given as goal

abbrev pub invariant-loop-key : goal.invariant-loop-key
invariant-loop-key l = l.out.items ≡ l.fn.out.items ++ spaced (map pair_word (take l.key-index l.pairs))
