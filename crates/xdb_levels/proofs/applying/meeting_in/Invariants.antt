-- What is left says what all say.
use Rattle.std.proofs.Common.{◌≡◌, ◌-◌, drop}
use Rattle.xdb_edit.specs.Versions.{meeting_in}
use Rattle.xdb_levels.proofs.applying.meeting_in.Given as goal

abbrev pub invariant-loop-place : goal.invariant-loop-place
invariant-loop-place l = meeting_in (drop (l.place - 1) l.tables) ≡ meeting_in l.tables
