-- The first levels are made.
use Rattle.std.proofs.Common.{◌≡◌, ◌<◌, ℕ, [], length, get_or}
use Rattle.xdb_edit.specs.Versions.{edited_level}
use Rattle.xdb_levels.proofs.applying.edited.Given as goal

abbrev pub invariant-loop-level : goal.invariant-loop-level
invariant-loop-level g l = record {
  long : length l.made ≡ g.row.N;
  done : (k : ℕ) → k < l.level → get_or l.made k [] ≡ edited_level l.edit k (get_or l.levels k []);
}
