-- The first levels are copied.
use Rattle.std.proofs.Common.{◌≡◌, take}
use Rattle.xdb_engine.proofs.shows.copy_levels.Given as goal

abbrev pub invariant-loop-level : goal.invariant-loop-level
invariant-loop-level l = l.levels.items ≡ take l.level l.version
