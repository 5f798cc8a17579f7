-- What is left says what all say.
use Rattle.std.proofs.Common.{◌≡◌, drop}
use Rattle.xdb_edit.specs.Versions.{meeting_among, overlap}
use Rattle.xdb_levels.proofs.applying.overlap.Given as goal

abbrev pub invariant-loop-level : goal.invariant-loop-level
invariant-loop-level l = meeting_among (drop l.level l.levels) ≡ overlap l.levels
