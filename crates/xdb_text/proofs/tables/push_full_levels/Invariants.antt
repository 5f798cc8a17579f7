-- The first levels are printed.
use Rattle.std.proofs.Common.{◌≡◌, ◌++◌, take}
use Rattle.xdb_plain.specs.Printed.{spaced, levels_words}
use Rattle.xdb_text.proofs.tables.push_full_levels.Given as goal

abbrev pub invariant-loop-level : goal.invariant-loop-level
invariant-loop-level l = l.out.items ≡ l.fn.out.items ++ spaced (levels_words (take l.level l.levels))
