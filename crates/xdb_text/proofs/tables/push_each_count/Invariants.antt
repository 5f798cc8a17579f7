-- The first counts are printed.
use Rattle.std.proofs.Common.{◌≡◌, ◌++◌, map, take}
use Rattle.xdb_plain.specs.Printed.{spaced, count_word}
use Rattle.xdb_text.proofs.tables.push_each_count.Given as goal

abbrev pub invariant-loop-num : goal.invariant-loop-num
invariant-loop-num l = l.out.items ≡ l.fn.out.items ++ spaced (map count_word (take l.num-index l.counts))
