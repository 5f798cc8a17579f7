-- What a recorded call does to an engine's parts.
use Rattle.std.specs.Prelude.{◌≡◌, ℕ, false, [], ◌∷◌}
use Rattle.xdb_plain.specs.Changes.{after}
use Rattle.xdb_plain.specs.Failures.{faults, is_damage}
use Rattle.xdb_plain.specs.Holds.{HoldsFit}
use Rattle.xdb_plain.specs.Legal.{AnswersRight}
use Rattle.xdb_plain.specs.State.{Plain}
use Rattle.xdb_plain.specs.Steps.{MayStand}
use Rattle.xdb_plain.specs.declared.note.Note.{Note}
use Rattle.xdb_steps.specs.Between.{Held}
use Rattle.xdb_steps.specs.Core.{Core, holders}
use Rattle.xdb_steps.specs.Keeps.{Agrees, Means}

-- From parts `c`, which agree with the state, to parts `d`: the note may stand there, and the parts agree with the
-- state behind it. Where files tell their bytes, and the content meant what the state had, an answer is right, and the
-- content goes on to do so. `told` says that files tell, and `rise` is how many faults the call booked.
pub record Step (told : Type 0) (rise : ℕ) (c d : Core) (p : Plain) (note : Note) : Type 0 where
  pub stands : MayStand p note
  pub agrees : Agrees d (after p note)
  pub answers : told → Means c p → AnswersRight p note.act note.reply
  pub means : told → Means c p → Means d (after p note)
  pub booked : rise ≡ faults (note ∷ [])
  pub undamaged : told → is_damage note.reply ≡ false

-- The note tells besides the holds that the step takes and lets go, and each holder has its hold behind it.
pub record HeldStep (told : Type 0) (rise : ℕ) (c d : Core) (p : Plain) (note : Note) : Type 0 where
  pub step : Step told rise c d p note
  pub holds : HoldsFit p note
  pub held : Held d.files.holds (holders d)
