-- A history as plain data, and the state that it has come to.
use Rattle.std.specs.Prelude.{ℕ, List}
use Rattle.xdb_plain.specs.Legal.{after_all}
use Rattle.xdb_plain.specs.State.{Plain, opening}
use Rattle.xdb_plain.specs.declared.note.Note.{Note}

-- the first numbers, the notes, and room for so many more
pub record Recorded : Type 0 where
  pub first_seq : ℕ
  pub first_file : ℕ
  pub notes : List Note
  pub spare : ℕ

-- the state after the last note
abbrev pub state_of : Recorded → Plain
state_of h = after_all (opening h.first_seq h.first_file) h.notes
