-- What is left says what all say.
use Rattle.std.proofs.Common.{◌≡◌, drop}
use Rattle.xdb_edit.specs.Versions.{missing_from}
use Rattle.xdb_levels.proofs.applying.missing.Given as goal

abbrev pub invariant-loop-level : goal.invariant-loop-level
invariant-loop-level l = missing_from l.levels (drop l.level-index l.removed) ≡ missing_from l.levels l.removed
