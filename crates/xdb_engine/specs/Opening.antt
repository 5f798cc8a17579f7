-- A question as it is asked, and as it is open then.
use Rattle.std.specs.Prelude.{◌≡◌, List, [], ◌∷◌, ◌++◌}
use Rattle.xdb_plain.specs.declared.note.HoldNote.{HoldNote}
use Rattle.xdb_vset.specs.Hold.{Hold}
use Rattle.xdb_vset.specs.Seen.{Seen}
use Rattle.xdb_engine.specs.Holds.{HoldsCurrent, taking_note}
use Rattle.xdb_engine.specs.Questions.{Asking, asking}
use Rattle.xdb_engine.specs.declared.questions.AskedRead.{AskedRead}

-- with the hold of its version
abbrev pub read_of : {F : Type 0} → AskedRead F → Hold → Asking F
read_of a hold = asking a.number a.by a.parted a.work.given hold a.work.story a.work.kept

-- It is open behind the others, and holds the current version. This is what a note tells of that.
pub record IsOpenBehind {F : Type 0} (a : AskedRead F) (old new : List (Asking F)) (set later : Seen F)
    (told : List HoldNote) : Type 0 where
  pub hold : Hold
  pub opened : new ≡ old ++ read_of a hold ∷ []
  pub holds : HoldsCurrent set later hold
  pub note : told ≡ taking_note hold ∷ []
