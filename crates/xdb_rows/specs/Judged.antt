-- How histories are judged: whole ones, as the run of their script, and notes behind a history.
use Rattle.std.specs.Prelude.{◌≡◌, ℕ, List, [], ◌∷◌, ◌++◌, IsTrue}
use Rattle.std.specs.List.{flat_map}
use Rattle.xdb_plain.specs.Holds.{HoldsFit}
use Rattle.xdb_plain.specs.Legal.{after_all, AnswersRight, IsRight, TellHolds}
use Rattle.xdb_plain.specs.Printed.{text_of}
use Rattle.xdb_plain.specs.Runs.{IsRunOf}
use Rattle.xdb_plain.specs.Scripts.{is_script}
use Rattle.xdb_plain.specs.State.{Plain, opening}
use Rattle.xdb_plain.specs.Steps.{MayStand}
use Rattle.xdb_plain.specs.Workers.{IsThreadsOf}
use Rattle.xdb_plain.specs.declared.note.Note.{Note}
use Rattle.xdb_plain.specs.declared.script.Line.{Line}

-- printed lines, each with its end
abbrev pub printed : List (List ℕ) → List ℕ
printed lines = flat_map (λ line. line ++ 10 ∷ []) lines

-- A whole history: the lines are a script and the notes its run, each note is a step with the right answer and its
-- holds, and the text is what they print.
pub record IsWorkedFrom (first_seq first_file : ℕ) (lines : List Line) (notes : List Note) (text : List (List ℕ)) : Type 0 where
  pub script : IsTrue (is_script lines)
  pub right : IsRight first_seq first_file notes
  pub holds : TellHolds (opening first_seq first_file) notes
  pub run : IsRunOf first_seq first_file lines notes
  pub prints : text_of notes ≡ printed text

abbrev pub IsWorked : List Line → List Note → List (List ℕ) → Type 0
IsWorked lines notes text = IsWorkedFrom 1 1 lines notes text

-- the note is a step with the right answer and its holds
pub record IsStep (p : Plain) (note : Note) : Type 0 where
  pub stands : MayStand p note
  pub answers : AnswersRight p note.act note.reply
  pub holds : HoldsFit p note

-- it is no step, and that alone is wrong with it
pub record IsNoStep (p : Plain) (note : Note) : Type 0 where
  pub falls : MayStand p note → ⊥
  pub answers : AnswersRight p note.act note.reply
  pub holds : HoldsFit p note

-- the answer that it carries isn't the one that is kept, and that alone is wrong with it
pub record IsWrongAnswer (p : Plain) (note : Note) : Type 0 where
  pub stands : MayStand p note
  pub falls : AnswersRight p note.act note.reply → ⊥
  pub holds : HoldsFit p note

-- the holds that it tells aren't those that it takes and lets go, and that alone is wrong with it
pub record AreWrongHolds (p : Plain) (note : Note) : Type 0 where
  pub stands : MayStand p note
  pub answers : AnswersRight p note.act note.reply
  pub falls : HoldsFit p note → ⊥

abbrev pub MayNotStand : List Note → Note → Type 0
MayNotStand history note = IsNoStep (after_all (opening 1 1) history) note

-- it is no step, whatever else is wrong with it
abbrev pub StandsNot : List Note → Note → Type 0
StandsNot history note = MayStand (after_all (opening 1 1) history) note → ⊥

abbrev pub TellsWrongHolds : List Note → Note → Type 0
TellsWrongHolds history note = AreWrongHolds (after_all (opening 1 1) history) note

abbrev pub AnswersWrong : List Note → Note → Type 0
AnswersWrong history note = IsWrongAnswer (after_all (opening 1 1) history) note

-- a note that could come next, and what is to be found of it
pub data Next : Type 0 where
  step : Note → Next
  no_step : Note → Next
  wrong_answer : Note → Next
  wrong_holds : Note → Next

abbrev pub IsNext : Plain → Next → Type 0
IsNext p (step note) = IsStep p note
IsNext p (no_step note) = IsNoStep p note
IsNext p (wrong_answer note) = IsWrongAnswer p note
IsNext p (wrong_holds note) = AreWrongHolds p note

abbrev pub AreNext : Plain → List Next → Type 0
AreNext p [] = Unit {0}
AreNext p (n ∷ ns) = IsNext p n × AreNext p ns

-- A history, from its first numbers on, and notes that could come next.
pub record Case : Type 0 where
  pub first_seq : ℕ
  pub first_file : ℕ
  pub history : List Note
  pub next : List Next

abbrev pub case_from : ℕ → ℕ → List Note → List Next → Case
case_from first_seq first_file history next =
    record { first_seq = first_seq; first_file = first_file; history = history; next = next }

abbrev pub case : List Note → List Next → Case
case history next = case_from 1 1 history next

-- the history is right and tells its holds, and the next notes are what is said of them
pub record IsCase (c : Case) : Type 0 where
  pub right : IsRight c.first_seq c.first_file c.history
  pub holds : TellHolds (opening c.first_seq c.first_file) c.history
  pub next : AreNext (after_all (opening c.first_seq c.first_file) c.history) c.next

abbrev pub AreCases : List Case → Type 0
AreCases [] = Unit {0}
AreCases (c ∷ cs) = IsCase c × AreCases cs

-- lines and notes that are a run on one thread, or none
pub data RunCase : Type 0 where
  run : List Line → List Note → RunCase
  no_run : List Line → List Note → RunCase

-- a script, and a right history that tells its holds
pub record IsHistoryOf (lines : List Line) (notes : List Note) : Type 0 where
  pub script : IsTrue (is_script lines)
  pub right : IsRight 1 1 notes
  pub holds : TellHolds (opening 1 1) notes

abbrev pub IsRunCase : RunCase → Type 0
IsRunCase (run lines notes) = IsHistoryOf lines notes × IsRunOf 1 1 lines notes
IsRunCase (no_run lines notes) = IsHistoryOf lines notes × (IsRunOf 1 1 lines notes → ⊥)

abbrev pub AreRunCases : List RunCase → Type 0
AreRunCases [] = Unit {0}
AreRunCases (c ∷ cs) = IsRunCase c × AreRunCases cs

-- the same for runs by workers
abbrev pub IsThreadsCase : RunCase → Type 0
IsThreadsCase (run lines notes) = IsHistoryOf lines notes × IsThreadsOf 1 1 lines notes
IsThreadsCase (no_run lines notes) = IsHistoryOf lines notes × (IsThreadsOf 1 1 lines notes → ⊥)

abbrev pub AreThreadsCases : List RunCase → Type 0
AreThreadsCases [] = Unit {0}
AreThreadsCases (c ∷ cs) = IsThreadsCase c × AreThreadsCases cs
