-- The first ranges are printed.
use Rattle.std.proofs.Common.{◌≡◌, ◌++◌, take}
use Rattle.std.specs.List.{flat_map}
use Rattle.xdb_plain.specs.Words.{range_words}
use Rattle.xdb_plain.specs.Printed.{spaced}
use Rattle.xdb_text.proofs.commands.push_ranges.Given as goal

abbrev pub invariant-loop-range : goal.invariant-loop-range
invariant-loop-range l = l.out.items ≡ l.fn.out.items ++ spaced (flat_map range_words (take l.range-index l.ranges))
