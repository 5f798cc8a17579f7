-- Short ways to write notes, tables and edits.
use Rattle.std.specs.Prelude.{ℕ, ◌+◌, ◌/◌, Bool, true, false, List, [], ◌∷◌, Option, Some, None}
use Rattle.xdb_key.specs.Bounds.{Bounds, bounds, successor}
use Rattle.xdb_key.specs.declared.op.Op.{Op}
use Rattle.xdb_key.specs.declared.op.Op.TheVariants.{Set, Del, DelSpan}
use Rattle.xdb_meta.specs.Table.{Table}
use Rattle.xdb_edit.specs.Changes.{Changes, changes}
use Rattle.xdb_edit.specs.Versions.{LevelLists}
use Rattle.xdb_plain.specs.Tables.{TableOps}
use Rattle.xdb_plain.specs.declared.act.Act.{Act}
use Rattle.xdb_plain.specs.declared.act.Act.TheVariants as act
use Rattle.xdb_plain.specs.declared.act.By.{By}
use Rattle.xdb_plain.specs.declared.act.By.TheVariants.{Client, Db}
use Rattle.xdb_plain.specs.declared.act.CommitForm.TheVariants as form
use Rattle.xdb_plain.specs.declared.act.Which.TheVariants.{At}
use Rattle.xdb_plain.specs.declared.answer.Answer.{Answer}
use Rattle.xdb_plain.specs.declared.note.HoldNote.{HoldNote}
use Rattle.xdb_plain.specs.declared.note.HoldNote.TheVariants.{Hold, Release}
use Rattle.xdb_plain.specs.declared.note.Note.{Note}
use Rattle.xdb_plain.specs.declared.question.Question.{Question}
use Rattle.xdb_plain.specs.declared.question.Question.TheVariants.{Get, Scan}
use Rattle.xdb_plain.specs.declared.reply.Reply.{Reply}
use Rattle.xdb_plain.specs.declared.reply.Reply.TheVariants as reply

abbrev pub note : By → Act → Reply → Note
note by a r = record { by = by; act = a; reply = r; edit = None; holds = []; tried = [] }

abbrev pub c1 : Act → Reply → Note
c1 a r = note (Client 1) a r

abbrev pub c2 : Act → Reply → Note
c2 a r = note (Client 2) a r

abbrev pub db : Act → Reply → Note
db a r = note Db a r

-- the note tells these holds, this edit, or these numbers tried
abbrev pub holding : Note → List HoldNote → Note
holding n holds = record n { holds = holds }

abbrev pub changing : Note → Changes → Note
changing n edit = record n { edit = Some edit }

abbrev pub trying : Note → List ℕ → Note
trying n tried = record n { tried = tried }

-- a range between two keys
abbrev pub from_to : List ℕ → List ℕ → Bounds
from_to lo hi = bounds lo hi

-- a range from a key to another that belongs to it
abbrev pub from_upto : List ℕ → List ℕ → Bounds
from_upto lo last = bounds lo (successor last)

-- a table in a file of its own, with its range, its least and its greatest number and its size
abbrev pub file_table : ℕ → Bounds → ℕ → ℕ → ℕ → Table
file_table num range seq_lo seq_hi size =
    record { num = num; backing = num; lo = range.lo; hi = range.hi; seq_lo = seq_lo; seq_hi = seq_hi; synthetic = 0; size = size; virt = false }

-- a table that a load brought, with the one number that it has
abbrev pub loaded_table : ℕ → Bounds → ℕ → ℕ → Table
loaded_table num range seq size =
    record { num = num; backing = num; lo = range.lo; hi = range.hi; seq_lo = seq; seq_hi = seq; synthetic = seq; size = size; virt = false }

-- a half of a table, under a new number
abbrev pub half_of : Table → ℕ → Bounds → Table
half_of t num range =
    record t { num = num; lo = range.lo; hi = range.hi; size = (t.size + 1) / 2; virt = true }

-- commands of one operation
abbrev pub put : List ℕ → List ℕ → Act
put key value = act.Commit form.Put (Set key value ∷ [])

abbrev pub del : List ℕ → Act
del key = act.Commit form.Del (Del key ∷ [])

abbrev pub delspan : Bounds → Act
delspan range = act.Commit form.DelSpan (DelSpan range ∷ [])

abbrev pub batch : List Op → Act
batch ops = act.Commit form.Batch ops

-- a question that holds a version, and its answer, which lets go
abbrev pub ask_held : ℕ → Question → Bool → HoldNote → Note
ask_held ask question parted hold = holding (c1 (act.Ask ask question parted) (reply.Asked ask)) (hold ∷ [])

abbrev pub ask_answered : ℕ → Question → ℕ → Reply → Note
ask_answered ask question hold r = holding (c1 (act.Ask ask question false) r) (Release hold ∷ [])

abbrev pub read : ℕ → Question → ℕ → ℕ → Answer → List Note
read ask question hold version answer =
    ask_held ask question false (Hold hold version) ∷ ask_answered ask question hold (reply.Answered answer) ∷ []

abbrev pub ask_refused : Question → Reply → Note
ask_refused question r = c1 (act.Ask 0 question false) r

abbrev pub get : List ℕ → Question
get key = Get key None

abbrev pub get_at : List ℕ → List ℕ → Question
get_at key snap = Get key (Some snap)

abbrev pub scan : Bounds → Question
scan range = Scan range 10 None

-- a note that lets a hold go
abbrev pub let_go : Act → Reply → ℕ → Note
let_go a r hold = holding (c1 a r) (Release hold ∷ [])

-- the table of one key at one number
abbrev pub table_of_key : ℕ → List ℕ → ℕ → Table
table_of_key num key seq = file_table num (from_upto key key) seq seq 85

-- a flush that installs a table of L0
abbrev pub put_flush : ℕ → Table → Note
put_flush job t = changing (db (act.Put job) reply.Installed) (changes [] (t.num ∷ []) ((0, t) ∷ []))

-- a group is sealed, flushed as a job, and its table installed
abbrev pub flushed : ℕ → ℕ → Table → List Note
flushed group job t = db act.Seal (reply.Group group) ∷ db act.FlushTake (reply.Job job) ∷ put_flush job t ∷ []

-- a load without tables is opened
abbrev pub excise : List ℕ → Bounds → Note
excise load span = c1 (act.LoadOpen load [] (Some span)) reply.Opened

-- a load with tables is opened
abbrev pub load : List ℕ → List TableOps → Option Bounds → List Note
load name tables span =
    c1 (act.LoadOpen name tables span) reply.Opening ∷ c1 (act.LoadOpen name tables span) reply.Opened ∷ []

-- a load is installed with an edit
abbrev pub install : List ℕ → Changes → Note
install load edit = changing (c1 (act.Install load) reply.Installed) edit

-- levels with tables in L0 alone, and with tables in L0 and L6
abbrev pub levels_0 : List Table → LevelLists
levels_0 ts = ts ∷ [] ∷ [] ∷ [] ∷ [] ∷ [] ∷ [] ∷ []

abbrev pub levels_0_6 : List Table → List Table → LevelLists
levels_0_6 ts us = ts ∷ [] ∷ [] ∷ [] ∷ [] ∷ [] ∷ us ∷ []

-- a compaction of the tables of L0 that meet a range
abbrev pub compact_l0 : Bounds → Act
compact_l0 range = act.CompactTake (At 0 range)
