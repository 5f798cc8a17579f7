-- What contracts see of an engine.
use Rattle.std.specs.Prelude.{◌≡◌, ℕ, ◌+◌, List, [], ◌∷◌, ◌++◌, Option, Some, None, IfSome}
use Rattle.xdb_history.specs.Recorded.{Recorded}
use Rattle.xdb_plain.specs.Holds.{HoldsFit}
use Rattle.xdb_plain.specs.Legal.{after_all, AnswersRight}
use Rattle.xdb_plain.specs.State.{Plain, opening}
use Rattle.xdb_plain.specs.Steps.{MayStand}
use Rattle.xdb_plain.specs.declared.note.Note.{Note}
use Rattle.xdb_read.specs.Fits.{ReadFits}
use Rattle.xdb_read.specs.declared.parts.ReadParts.{ReadParts}
use Rattle.xdb_engine.specs.Questions.{Asking, question_by, with_result}
use Rattle.xdb_engine.specs.declared.ids.Given.{Given}
use Rattle.xdb_engine.specs.declared.ids.Given.TheVariants as given
use Rattle.xdb_engine.specs.declared.ids.Id.{Id}
use Rattle.xdb_engine.specs.declared.ids.Outcome.{Outcome}
use Rattle.xdb_engine.specs.declared.ids.Outcome.TheVariants as outcome

pub record EngineView (F : Type 0) : Type 0 where
  -- the first numbers, the history so far, and room for so many more notes
  pub first_seq : ℕ
  pub first_file : ℕ
  pub notes : List Note
  pub spare : ℕ
  -- the open questions
  pub questions : List (Asking F)
  -- the numbers that were taken, each until the removal of its file ends
  pub removals : List ℕ
  -- how many failures of devices were booked
  pub book : ℕ

abbrev pub engine_view : {F : Type 0} → Recorded → List (Asking F) → List ℕ → ℕ → EngineView F
engine_view h questions removals book = record {
  first_seq = h.first_seq;
  first_file = h.first_file;
  notes = h.notes;
  spare = h.spare;
  questions = questions;
  removals = removals;
  book = book;
}

-- the plain state that the history has come to
abbrev pub plain_of : {F : Type 0} → EngineView F → Plain
plain_of e = after_all (opening e.first_seq e.first_file) e.notes

-- The history is longer by a note that may stand and tells its holds, and an answer in it is the one that was kept. Its
-- room was made before.
pub record Adds {F : Type 0} (old new : EngineView F) (note : Note) : Type 0 where
  pub notes : new.notes ≡ old.notes ++ note ∷ []
  pub stands : MayStand (plain_of old) note
  pub holds : HoldsFit (plain_of old) note
  pub right : AnswersRight (plain_of old) note.act note.reply
  pub spare : new.spare + 1 ≡ old.spare
  pub first_seq : new.first_seq ≡ old.first_seq
  pub first_file : new.first_file ≡ old.first_file
  pub book : new.book ≡ old.book

-- The same, where the note tells that a device failed: that is booked.
pub record AddsFault {F : Type 0} (old new : EngineView F) (note : Note) : Type 0 where
  pub notes : new.notes ≡ old.notes ++ note ∷ []
  pub stands : MayStand (plain_of old) note
  pub holds : HoldsFit (plain_of old) note
  pub spare : new.spare + 1 ≡ old.spare
  pub first_seq : new.first_seq ≡ old.first_seq
  pub first_file : new.first_file ≡ old.first_file
  pub book : new.book ≡ old.book + 1

-- All but the questions stays.
abbrev pub with_questions : {F : Type 0} → EngineView F → List (Asking F) → EngineView F
with_questions e questions = record e { questions = questions }

-- what is lent for work under way
abbrev pub lent_parts : {F : Type 0} → Option (Given F) → Option (ReadParts F)
lent_parts None = None
lent_parts (Some (given.Read parts)) = Some parts.now

-- what came of work under way fits the question
abbrev pub FitsQuestion : {F : Type 0} → (F → Option (List ℕ)) → Asking F → Outcome → Type 0
FitsQuestion bytes q (outcome.Read done) = ReadFits bytes q.given done

-- a result is kept with the question
abbrev pub IsBrought : {F : Type 0} → Asking F → Outcome → EngineView F → EngineView F → Type 0
IsBrought q (outcome.Read done) old new = new ≡ with_questions old (with_result q done old.questions)

-- with the question that work under way is for, if there is one
abbrev pub IsBroughtTo : {F : Type 0} → Id → Outcome → EngineView F → EngineView F → Type 0
IsBroughtTo id out old new = IfSome (question_by id old.questions) (λ q. IsBrought q out old new)
