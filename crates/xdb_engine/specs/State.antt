-- The parts of an engine beside its history, how they step, and what every engine keeps.
use Rattle.std.specs.Prelude.{◌≡◌, ℕ, ◌≤◌, true, false, List, [], map, Option, IsTrue}
use Rattle.xdb_history.specs.Recorded.{Recorded, state_of}
use Rattle.xdb_laws.specs.Tables.{contents}
use Rattle.xdb_lists.specs.Numbers.{is_among}
use Rattle.xdb_plain.specs.Failures.{faults, has_damage}
use Rattle.xdb_plain.specs.Legal.{Right, TellHolds}
use Rattle.xdb_plain.specs.State.{Plain, Hold, opening}
use Rattle.xdb_plain.specs.Steps.{is_client}
use Rattle.xdb_plain.specs.declared.act.By.{By}
use Rattle.xdb_plain.specs.declared.note.Note.{Note}
use Rattle.xdb_steps.specs.Between.{Held}
use Rattle.xdb_steps.specs.Core.{Core, Files, core, holders, numbers}
use Rattle.xdb_steps.specs.Keeps.{Agrees, Means}
use Rattle.xdb_steps.specs.SetFiles.{AreOfSet}
use Rattle.xdb_steps.specs.Step.{HeldStep}
use Rattle.xdb_vset.specs.Seen.{Seen}
use Rattle.xdb_engine.specs.Files.{HasNoFiles, content_by}
use Rattle.xdb_engine.specs.Holds.{ask_holds}
use Rattle.xdb_engine.specs.Questions.{plain_question}
use Rattle.xdb_engine.specs.Removals.{Removing}
use Rattle.xdb_engine.specs.declared.state.State.{State}

-- `bytes` is what files tell
module _ {F : Type 0} (bytes : F → Option (List ℕ)) where
  -- the files of a set, with what the tables of its current version have
  abbrev pub files_of : Seen F → List Hold → Files
  files_of s holds = record {
    current = record { num = s.current.num; levels = s.current.levels };
    contents = contents (content_by bytes s) s.current.levels;
    holds = holds;
    known = s.known;
    taken = s.taken;
  }

  -- As plain data: each open question by what its parts mean. No job was started.
  abbrev pub core_of : State F → Core
  core_of s = core s.mem (numbers s.numbers.next s.numbers.file s.numbers.asked 0) (map plain_question s.asks)
      (files_of s.files (ask_holds s.files s.asks)) []

  -- each holder has its hold
  abbrev pub HoldsStand : State F → Type 0
  HoldsStand s = Held (core_of s).files.holds (holders (core_of s))

  -- The set has what the parts show of it. There are no files in it yet.
  pub record SetStands (s : State F) : Type 0 where
    pub of_set : AreOfSet s.files (core_of s).files
    pub none : HasNoFiles s.files

  -- The note is a step of the parts and of the plain state, whether files tell their bytes or not, and so many faults
  -- were booked. The set goes on to have what the parts show of it.
  pub record IsStep (rise : ℕ) (old new : State F) (p : Plain) (note : Note) : Type 0 where
    pub step : HeldStep (Unit {0}) rise (core_of old) (core_of new) p note
    pub set : SetStands new

  -- wherever the parts agreed with the plain state
  abbrev pub Steps : ℕ → State F → State F → Note → Type 0
  Steps rise old new note =
      (p : Plain) → Agrees (core_of old) p → HoldsStand old → SetStands old → IsStep rise old new p note

  -- the same where it is a client who steps
  abbrev pub ClientSteps : By → State F → State F → Note → Type 0
  ClientSteps by old new note = IsTrue (is_client by) → Steps 0 old new note

-- `told` says that the files tell their bytes.
pub record Stands (told : Type 0) (c : Core) (h : Recorded) (book : ℕ) : Type 0 where
  pub right : Right (opening h.first_seq h.first_file) h.notes
  pub tells : TellHolds (opening h.first_seq h.first_file) h.notes
  pub agrees : Agrees c (state_of h)
  pub means : Means c (state_of h)
  pub held : Held c.files.holds (holders c)
  pub booked : book ≡ faults h.notes
  pub undamaged : told → has_damage h.notes ≡ false

-- The same of an engine's state, with what holds of its set. There is room for the number that the step of each note may
-- take, and each whose removal hasn't ended was taken.
pub record StateStands {F : Type 0} (bytes : F → Option (List ℕ)) (told : Type 0) (s : State F) (h : Recorded)
    (r : Removing) (book : ℕ) : Type 0 where
  pub stands : Stands told (core_of bytes s) h book
  pub set : SetStands bytes s
  pub room : h.spare ≤ r.room
  pub taken : (n : ℕ) → is_among n r.numbers ≡ true → is_among n (state_of h).taken ≡ true
