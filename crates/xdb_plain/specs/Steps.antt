-- Which note may stand as the next one of a history.
use Rattle.std.specs.Prelude.{◌≡◌, ℕ, Bool, true, false, ◌&&◌, List, [], ◌∷◌, length, Option, Some, None, IsTrue, nat_le, nat_lt}
use Rattle.std.specs.List.{list_any, list_all}
use Rattle.xdb_key.specs.Bounds.{Bounds}
use Rattle.xdb_edit.specs.Changes.{Changes}
use Rattle.xdb_edit.specs.Records.{IsEdit}
use Rattle.xdb_plain.specs.Counts.{counts, is_within, job_numbers}
use Rattle.xdb_plain.specs.Edits.{IsFlushOf, IsCompactionOf, IsInstallOf}
use Rattle.xdb_plain.specs.Outcomes.{Outcome, fails, cancels, outcome}
use Rattle.xdb_plain.specs.Replies.{may_reply, same_reply}
use Rattle.xdb_plain.specs.Snapshots.{snap_states}
use Rattle.xdb_plain.specs.State.{Plain, Load, OpenQuestion, Job, JobKind, flush_of, compaction_of, found_load, found_question, found_job}
use Rattle.xdb_plain.specs.Tables.{TableOps}
use Rattle.xdb_plain.specs.declared.act.Act.{Act}
use Rattle.xdb_plain.specs.declared.act.Act.TheVariants as act
use Rattle.xdb_plain.specs.declared.act.By.{By}
use Rattle.xdb_plain.specs.declared.act.By.TheVariants.{Client, Db}
use Rattle.xdb_plain.specs.declared.note.Note.{Note}
use Rattle.xdb_plain.specs.declared.question.Question.{Question}
use Rattle.xdb_plain.specs.declared.reply.Reply.{Reply}
use Rattle.xdb_plain.specs.declared.reply.Reply.TheVariants as reply

-- clients are numbered from 1 to 16
abbrev pub is_client : By → Bool
is_client (Client n) = nat_le 1 n && nat_le n 16
is_client Db = false

abbrev pub is_db : By → Bool
is_db (Client n) = false
is_db Db = true

-- the owner's acts, and those of clients
abbrev pub may_make : Act → By → Bool
may_make act.Seal by = is_db by
may_make act.FlushTake by = is_db by
may_make (act.CompactTake which) by = is_db by
may_make (act.Put job) by = is_db by
may_make (act.Build job) by = is_db by
may_make (act.Work ask) by = is_db by
may_make act.Reap by = is_db by
may_make (act.Remove num) by = is_db by
may_make (act.Show what) by = is_db by
may_make _ by = is_client by

-- the number that an ask has: that of its question, and 0 where it was refused
abbrev pub asked_number : Reply → ℕ
asked_number (reply.Asked ask) = ask
asked_number _ = 0

-- any client may take an answer, and a failure is told by the one who asked
abbrev pub IsToldBy : Reply → By → By → Type 0
IsToldBy (reply.Answered answer) asker by = Unit {0}
IsToldBy _ asker by = asker ≡ by

-- a reply to an open question has the question that was asked
pub record IsReplyTo (q : OpenQuestion) (by : By) (question : Question) (parted : Bool) (r : Reply) : Type 0 where
  pub same_question : q.question ≡ question
  pub same_parted : q.parted ≡ parted
  pub told_by : IsToldBy r q.by by

abbrev pub FitsAsk : Option OpenQuestion → By → ℕ → Question → Bool → Reply → Type 0
FitsAsk None by ask question parted r = ask ≡ asked_number r
FitsAsk (Some q) by ask question parted r = IsReplyTo q by question parted r

-- the end of an opening has what was to be opened
pub record IsEndOf (l : Load) (by : By) (tables : List TableOps) (span : Option Bounds) : Type 0 where
  pub same_by : l.by ≡ by
  pub same_tables : l.tables ≡ tables
  pub same_span : l.span ≡ span

abbrev pub FitsEnd : Load → By → List TableOps → Option Bounds → Reply → Type 0
FitsEnd l by tables span reply.NameInUse = Unit {0}
FitsEnd l by tables span _ = IsEndOf l by tables span

abbrev pub FitsOpen : Option Load → By → List TableOps → Option Bounds → Reply → Type 0
FitsOpen None by tables span r = Unit {0}
FitsOpen (Some l) by tables span r = FitsEnd l by tables span r

-- a reply to what began earlier fits what began
abbrev pub FitsAct : Plain → By → Act → Reply → Type 0
FitsAct p by (act.Ask ask question parted) r = FitsAsk (found_question ask p.questions) by ask question parted r
FitsAct p by (act.LoadOpen load tables span) r = FitsOpen (found_load load p.loads) by tables span r
FitsAct p by _ r = Unit {0}

abbrev pub PutsJob : Option Job → Changes → Type 0
PutsJob None e = ⊥
PutsJob (Some job) e = by_kind job.kind
  where
    by_kind : JobKind → Type 0
    by_kind (flush_of group) = IsFlushOf job e
    by_kind (compaction_of c) = IsCompactionOf job c e

abbrev pub InstallsLoad : Plain → Option Load → Changes → Type 0
InstallsLoad p None e = ⊥
InstallsLoad p (Some l) e = IsInstallOf p l e

-- the edit of what is installed
abbrev pub Installs : Plain → Act → Changes → Type 0
Installs p (act.Put job) e = PutsJob (found_job job p.jobs) e
Installs p (act.Install load) e = InstallsLoad p (found_load load p.loads) e
Installs p _ e = ⊥

abbrev pub HasEdit : Plain → Act → Option Changes → Type 0
HasEdit p a None = ⊥
HasEdit p a (Some e) = IsEdit e × Installs p a e

-- there is an edit exactly where something is installed
abbrev pub FitsEdit : Plain → Act → Reply → Option Changes → Type 0
FitsEdit p a reply.Installed edit = HasEdit p a edit
FitsEdit p a _ edit = edit ≡ None

abbrev pub are_rising_numbers : List ℕ → Bool
are_rising_numbers [] = true
are_rising_numbers (n ∷ []) = true
are_rising_numbers (n ∷ m ∷ ms) = nat_lt n m && are_rising_numbers (m ∷ ms)

-- numbers, rising, of so many from the first on
abbrev pub AreTried : ℕ → ℕ → List ℕ → Type 0
AreTried first len tried = IsTrue (are_rising_numbers tried && list_all (is_within first len) tried)

abbrev pub FitsJobTried : Option Job → List ℕ → Type 0
FitsJobTried None tried = tried ≡ []
FitsJobTried (Some j) tried = AreTried j.first (job_numbers j.kind) tried

abbrev pub FitsLoadTried : Option Load → List ℕ → Type 0
FitsLoadTried None tried = tried ≡ []
FitsLoadTried (Some l) tried = AreTried l.first (length l.tables) tried

-- the end in vain of a job or an opening tells which of its file numbers were tried
abbrev pub FitsTried : Plain → Act → Outcome → List ℕ → Type 0
FitsTried p (act.Build job) fails tried = FitsJobTried (found_job job p.jobs) tried
FitsTried p (act.Put job) cancels tried = FitsJobTried (found_job job p.jobs) tried
FitsTried p (act.LoadOpen load tables span) fails tried = FitsLoadTried (found_load load p.loads) tried
FitsTried p _ _ tried = tried ≡ []

-- what is shown is what there is
abbrev pub IsShown : Plain → Reply → Type 0
IsShown p (reply.Levels levels) = levels ≡ p.current.levels
IsShown p (reply.Counts cs) = cs ≡ counts p
IsShown p (reply.Snaps states) = states ≡ snap_states p.snaps
IsShown p _ = Unit {0}

-- The note may stand as the next one. What it tells of holds is apart (`HoldsFit`).
pub record MayStand (p : Plain) (note : Note) : Type 0 where
  pub by : IsTrue (may_make note.act note.by)
  pub reply : IsTrue (list_any (same_reply note.reply) (may_reply p note.by note.act))
  pub act : FitsAct p note.by note.act note.reply
  pub edit : FitsEdit p note.act note.reply note.edit
  pub tried : FitsTried p note.act (outcome note.reply) note.tried
  pub shown : IsShown p note.reply
