-- Notes of steps.
use Rattle.std.specs.Prelude.{ℕ, Bool, true, false, List, [], Option, Some, None}
use Rattle.xdb_edit.specs.Changes.{Changes}
use Rattle.xdb_plain.specs.declared.act.Act.{Act}
use Rattle.xdb_plain.specs.declared.act.Act.TheVariants as act
use Rattle.xdb_plain.specs.declared.act.By.{By}
use Rattle.xdb_plain.specs.declared.act.By.TheVariants.{Db}
use Rattle.xdb_plain.specs.declared.note.HoldNote.{HoldNote}
use Rattle.xdb_plain.specs.declared.note.Note.{Note}
use Rattle.xdb_plain.specs.declared.reply.Reply.{Reply}
use Rattle.xdb_plain.specs.declared.reply.Reply.TheVariants.{Installed}

-- a note with what it tells of tables, of holds and of numbers that were tried
abbrev pub full_note : By → Act → Reply → Option Changes → List HoldNote → List ℕ → Note
full_note by a reply edit holds tried =
    record { by = by; act = a; reply = reply; edit = edit; holds = holds; tried = tried }

-- a note without an edit, holds and tried numbers
abbrev pub plain_note : By → Act → Reply → Note
plain_note by a reply = full_note by a reply None [] []

-- a note of a step that takes or lets go of versions
abbrev pub held_note : By → Act → Reply → List HoldNote → Note
held_note by a reply holds = full_note by a reply None holds []

-- the note of a job's end in vain, with the numbers of files that were begun
abbrev pub end_note : ℕ → Reply → List HoldNote → List ℕ → Note
end_note job reply holds tried = full_note Db (act.Build job) reply None holds tried

-- the note of an edit that is installed
abbrev pub put_note : ℕ → Changes → List HoldNote → Note
put_note job e holds = full_note Db (act.Put job) Installed (Some e) holds []

-- work that there may be none of to do
abbrev pub is_work : Act → Bool
is_work (act.Build job) = true
is_work (act.Work ask) = true
is_work _ = false
