-- How far an engine has come in the run of a script.
use Rattle.std.specs.Prelude.{◌≡◌, ◌≤◌, ℕ, true, List, ◌++◌, reverse, map, All, Option, is_some}
use Rattle.xdb_engine.specs.Questions.{Asking, HasNumber, plain_question}
use Rattle.xdb_engine.specs.View.{EngineView, plain_of}
use Rattle.xdb_plain.specs.Counts.{is_among}
use Rattle.xdb_plain.specs.Runs.{Run, first_run, run_after, run_over, IsBlock, AreBlocks}
use Rattle.xdb_plain.specs.State.{opening}
use Rattle.xdb_plain.specs.declared.act.By.{By}
use Rattle.xdb_plain.specs.declared.note.Note.{Note}
use Rattle.xdb_plain.specs.declared.script.Cmd.{Cmd}
use Rattle.xdb_plain.specs.declared.script.Line.{Line}

module _ {F : Type 0} where
  -- Between two lines a question is open where it is in parts; its result is kept where its work was delivered.
  pub record Awaits (worked : List ℕ) (q : Asking F) : Type 0 where
    pub parted : q.parted ≡ true
    pub kept : is_some q.kept ≡ is_among q.ask worked

  -- The run has come to where the engine stands.
  pub record IsAt (r : Run) (e : EngineView F) : Type 0 where
    pub plain : r.plain ≡ plain_of e
    pub questions : All (Awaits r.worked) e.questions
    pub given : All (λ ask. ask ≤ r.plain.asked) r.worked

  -- The history is longer by these notes.
  pub record Grows (old new : EngineView F) (block : List Note) : Type 0 where
    pub notes : new.notes ≡ old.notes ++ block
    pub first_seq : new.first_seq ≡ old.first_seq
    pub first_file : new.first_file ≡ old.first_file

  -- A line adds its block to the history, in each run that has come to the engine.
  pub record TakesLine (old new : EngineView F) (by : Option By) (cmd : Cmd) : Type 0 where
    pub block : List Note
    pub grows : Grows old new block
    pub is_block : (r : Run) → IsAt r old → IsBlock r by cmd block
    pub goes_on : (r : Run) → IsAt r old → IsAt (run_after r cmd block) new

  -- The history is the blocks of these lines, and their run has come to the engine.
  pub record HasTakenLines (lines : List Line) (e : EngineView F) : Type 0 where
    pub first_seq : e.first_seq ≡ 1
    pub first_file : e.first_file ≡ 1
    pub blocks : AreBlocks (first_run (opening 1 1)) lines e.notes
    pub here : IsAt (run_over (first_run (opening 1 1)) lines e.notes) e

  -- The lines up to those that are left, whose first one stands last, were taken.
  pub record StillTakesLines (script left : List Line) (e : EngineView F) : Type 0 where
    pub lines : List Line
    pub whole : script ≡ lines ++ reverse left
    pub has : HasTakenLines lines e

  -- The open questions are those of the plain state, with numbers that were given.
  pub record KnowsQuestions (e : EngineView F) : Type 0 where
    pub questions : map plain_question e.questions ≡ (plain_of e).questions
    pub numbers : All (HasNumber (plain_of e).asked) e.questions

  -- There is room for a line's notes.
  pub record IsReady (e : EngineView F) : Type 0 where
    pub room : 4 ≤ e.spare
    pub knows : KnowsQuestions e
