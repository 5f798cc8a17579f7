-- How the removal of a file ends.
use Rattle.std.specs.Prelude.{◌≡◌, ℕ, Bool, true, false, ◌&&◌, List, Result, Ok, Err}
use Rattle.xdb_device.specs.declared.fault.DevNo.{DevNo}
use Rattle.xdb_device.specs.declared.fault.DevNo.TheVariants as cause
use Rattle.xdb_lists.specs.Numbers.{is_among}
use Rattle.xdb_plain.specs.declared.act.Act.TheVariants as act
use Rattle.xdb_plain.specs.declared.act.By.TheVariants.{Db}
use Rattle.xdb_plain.specs.declared.note.Note.{Note}
use Rattle.xdb_plain.specs.declared.reply.Reply.{Reply}
use Rattle.xdb_plain.specs.declared.reply.Reply.TheVariants.{Stuck, Memory}
use Rattle.xdb_steps.specs.Notes.{plain_note}
use Rattle.xdb_engine.specs.Removals.{without_number}
use Rattle.xdb_engine.specs.View.{EngineView, Adds, AddsFault}

-- the device failed
abbrev pub has_failed : Result (Unit {0}) DevNo → Bool
has_failed (Err cause.Failed) = true
has_failed _ = false

-- the file of a number that was taken stays where it is
abbrev pub is_stuck : ℕ → Result (Unit {0}) DevNo → List ℕ → Bool
is_stuck num result removals = is_among num removals && has_failed result

-- the note that the file of the number stays, by this reply
abbrev pub stays_note : ℕ → Reply → Note
stays_note num reply = plain_note Db (act.Remove num) reply

module _ {F : Type 0} where
  -- The number waits no more, and the questions stay.
  pub record Frees (num : ℕ) (old new : EngineView F) : Type 0 where
    pub removals : new.removals ≡ without_number num old.removals
    pub questions : new.questions ≡ old.questions

  -- where the removal was waited for, and where it wasn't
  abbrev pub EndsWaited : Bool → ℕ → Result (Unit {0}) DevNo → EngineView F → EngineView F → Type 0
  EndsWaited false num result old new = new ≡ old
  EndsWaited true num (Ok x) old new = new ≡ record old { removals = without_number num old.removals }
  EndsWaited true num (Err cause.Failed) old new = AddsFault old new (stays_note num Stuck) × Frees num old new
  EndsWaited true num (Err cause.Memory) old new = Adds old new (stays_note num Memory) × Frees num old new

  -- by the numbers whose removal is waited for
  abbrev pub EndsRemoval : ℕ → Result (Unit {0}) DevNo → EngineView F → EngineView F → Type 0
  EndsRemoval num result old new = EndsWaited (is_among num old.removals) num result old new
