-- How work that is under way ends.
use Rattle.std.specs.Prelude.{◌≡◌, ℕ, true, List, Option, Some, None, Result, is_some, IfOk}
use Rattle.std.specs.declared.alloc.AllocError.{AllocError}
use Rattle.xdb_engine.specs.Ends.{failure_note}
use Rattle.xdb_engine.specs.Questions.{Asking, with_result, without}
use Rattle.xdb_engine.specs.View.{EngineView, Adds, with_questions}
use Rattle.xdb_plain.specs.declared.reply.Reply.TheVariants.{Memory}
use Rattle.xdb_read.specs.Fits.{ReadFits}
use Rattle.xdb_read.specs.declared.parts.ReadDone.{ReadDone}
use Rattle.xdb_run.specs.declared.works.WorkEnd.{WorkEnd}
use Rattle.xdb_run.specs.declared.works.WorkEnd.TheVariants.{NoSuch, Kept, Failed}

-- `bytes` is what files tell
module _ {F : Type 0} (bytes : F → Option (List ℕ)) where
  -- What comes of the work on a question, if there is such work to do: its result, or want of memory.
  abbrev pub IsWorkedOn : Option (Asking F) → Option (Result ReadDone AllocError) → Type 0
  IsWorkedOn None None = Unit {0}
  IsWorkedOn None (Some result) = ⊥
  IsWorkedOn (Some q) None = is_some q.kept ≡ true
  IsWorkedOn (Some q) (Some result) = (q.kept ≡ None) × IfOk result (ReadFits bytes q.given)

  -- The result of a question that had none is kept, and fits what was handed out for it.
  pub record Keeps (q : Asking F) (old new : EngineView F) : Type 0 where
    pub waits : q.kept ≡ None
    pub done : ReadDone
    pub keeps : new ≡ with_questions old (with_result q done old.questions)
    pub fits : ReadFits bytes q.given done

  -- An allocation failed in the work on a question that had no result: a note tells so, and the question is gone.
  pub record Lacks (q : Asking F) (old new : EngineView F) : Type 0 where
    pub waits : q.kept ≡ None
    pub note : Adds old new (failure_note (Some q) Memory)
    pub leaves : new.questions ≡ without q.ask old.questions

  -- How the work on a question ends. Without one, or where its result is kept already, there is none to do.
  abbrev pub EndsWork : Option (Asking F) → WorkEnd → EngineView F → EngineView F → Type 0
  EndsWork None NoSuch old new = new ≡ old
  EndsWork None _ old new = ⊥
  EndsWork (Some q) NoSuch old new = (is_some q.kept ≡ true) × (new ≡ old)
  EndsWork (Some q) Kept old new = Keeps q old new
  EndsWork (Some q) Failed old new = Lacks q old new
