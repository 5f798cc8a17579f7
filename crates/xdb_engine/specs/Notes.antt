-- The notes of recorded calls.
use Rattle.std.specs.Prelude.{◌≡◌, Bool, List}
use Rattle.xdb_key.specs.declared.op.Op.{Op}
use Rattle.xdb_plain.specs.Steps.{asked_number}
use Rattle.xdb_plain.specs.declared.act.Act.{Act}
use Rattle.xdb_plain.specs.declared.act.Act.TheVariants as act
use Rattle.xdb_plain.specs.declared.act.By.{By}
use Rattle.xdb_plain.specs.declared.act.CommitForm.{CommitForm}
use Rattle.xdb_plain.specs.declared.note.HoldNote.{HoldNote}
use Rattle.xdb_plain.specs.declared.note.Note.{Note}
use Rattle.xdb_plain.specs.declared.question.Question.{Question}
use Rattle.xdb_plain.specs.declared.reply.Reply.{Reply}
use Rattle.xdb_steps.specs.Notes.{plain_note, held_note}
use Rattle.xdb_engine.specs.declared.notes.Verdict.{Verdict}

abbrev pub commit_note : By → CommitForm → List Op → Reply → Note
commit_note by form ops reply = plain_note by (act.Commit form ops) reply

-- the number in the act is that of the reply, and 0 where no question is opened
abbrev pub ask_note : By → Question → Bool → Reply → List HoldNote → Note
ask_note by question parted reply holds = held_note by (act.Ask (asked_number reply) question parted) reply holds

-- The note is by this one, of this act and of the reply that the caller gets. It tells of no edit, hold or file.
abbrev pub IsPlain : By → Act → Verdict → Type 0
IsPlain by a v = v.note ≡ plain_note by a v.reply

-- the same of one that tells these holds
abbrev pub IsHolding : By → Act → List HoldNote → Verdict → Type 0
IsHolding by a holds v = v.note ≡ held_note by a v.reply holds
