-- Runs of a script on one thread: each line has its block of notes, one block after another, and at the end the
-- files that nothing needs are taken.
use Rattle.std.specs.Prelude.{◌≡◌, ◌⊎◌, ℕ, ◌+◌, Bool, true, false, not, ◌&&◌, List, [], ◌∷◌, ◌++◌, take, drop, Option, Some, None, ◌==◌, is_some, IsTrue, if◌then◌else◌}
use Rattle.std.specs.List.{filter_map}
use Rattle.xdb_plain.specs.Changes.{after}
use Rattle.xdb_plain.specs.Counts.{dead, is_among}
use Rattle.xdb_plain.specs.Edits.{is_empty}
use Rattle.xdb_plain.specs.Legal.{after_all}
use Rattle.xdb_plain.specs.Printed.{is_asked, is_opening}
use Rattle.xdb_plain.specs.Removals.{took}
use Rattle.xdb_plain.specs.Scripts.{found_table, tables_below}
use Rattle.xdb_plain.specs.State.{Plain, opening, found_question, found_job}
use Rattle.xdb_plain.specs.Tables.{TableOps}
use Rattle.xdb_plain.specs.declared.act.By.{By}
use Rattle.xdb_plain.specs.declared.act.By.TheVariants.{Db}
use Rattle.xdb_plain.specs.declared.act.Act.{Act}
use Rattle.xdb_plain.specs.declared.act.Act.TheVariants as act
use Rattle.xdb_plain.specs.declared.question.Question.{Question}
use Rattle.xdb_plain.specs.declared.reply.Reply.{Reply}
use Rattle.xdb_plain.specs.declared.reply.Reply.TheVariants as reply
use Rattle.xdb_plain.specs.declared.note.Note.{Note}
use Rattle.xdb_plain.specs.declared.script.Cmd.{Cmd}
use Rattle.xdb_plain.specs.declared.script.Cmd.TheVariants as cmd
use Rattle.xdb_plain.specs.declared.script.Line.{Line}

-- How far a run has come: the plain state, the jobs and questions whose work was delivered, and the tables that the
-- lines so far have defined.
pub record Run : Type 0 where
  pub plain : Plain
  pub built : List ℕ
  pub worked : List ℕ
  pub tables : List TableOps

abbrev pub run_at : Plain → List ℕ → List ℕ → List TableOps → Run
run_at plain built worked tables = record { plain = plain; built = built; worked = worked; tables = tables }

abbrev pub first_run : Plain → Run
first_run p = run_at p [] [] []

-- the job runs, or the question is open, and its work wasn't delivered
abbrev pub job_waits : Run → ℕ → Bool
job_waits r job = is_some (found_job job r.plain.jobs) && not (is_among job r.built)

abbrev pub question_waits : Run → ℕ → Bool
question_waits r ask = is_some (found_question ask r.plain.questions) && not (is_among ask r.worked)

abbrev pub is_not_yet : Reply → Bool
is_not_yet reply.NotYet = true
is_not_yet _ = false

abbrev pub is_no_such : Reply → Bool
is_no_such reply.NoSuch = true
is_no_such _ = false

-- the note is by this one, and of this act
pub record IsNote (by : By) (a : Act) (note : Note) : Type 0 where
  pub same_by : note.by ≡ by
  pub same_act : note.act ≡ a

-- the block is one such note
abbrev pub IsOne : By → Act → List Note → Type 0
IsOne by a (note ∷ []) = IsNote by a note
IsOne by a _ = ⊥

-- the reply is `not-yet` exactly where the work is waited for
abbrev pub IsWaited : By → Act → Bool → List Note → Type 0
IsWaited by a waits (note ∷ []) = IsNote by a note × (is_not_yet note.reply ≡ waits)
IsWaited by a waits _ = ⊥

-- A read that isn't parted has two notes where its question was opened: the second has the same number, and carries
-- the answer or the failure.
abbrev pub IsRead : By → Question → List Note → Type 0
IsRead by question (first ∷ []) = (ask : ℕ) × IsNote by (act.Ask ask question false) first × (is_asked first.reply ≡ false)
IsRead by question (first ∷ second ∷ []) =
    (ask : ℕ) × IsNote by (act.Ask ask question false) first × (first.reply ≡ reply.Asked ask)
    × IsNote by (act.Ask ask question false) second × (is_asked second.reply ≡ false)
IsRead by question _ = ⊥

abbrev pub IsParted : By → Question → List Note → Type 0
IsParted by question (note ∷ []) = (ask : ℕ) × IsNote by (act.Ask ask question true) note
IsParted by question _ = ⊥

abbrev pub IsAsk : By → Question → Bool → List Note → Type 0
IsAsk by question true notes = IsParted by question notes
IsAsk by question false notes = IsRead by question notes

-- an opening that began is over: the load is opened, or it failed
abbrev pub ends_opening : Reply → Bool
ends_opening reply.Opened = true
ends_opening reply.Fault = true
ends_opening reply.Memory = true
ends_opening _ = false

-- a load has two notes where its opening began, and with the second that opening is over
abbrev pub IsLoading : By → Act → List Note → Type 0
IsLoading by a (first ∷ []) = IsNote by a first × (is_opening first.reply ≡ false)
IsLoading by a (first ∷ second ∷ []) =
    IsNote by a first × (first.reply ≡ reply.Opening) × IsNote by a second × IsTrue (ends_opening second.reply)
IsLoading by a _ = ⊥

-- work that is delivered prints nothing, work that fails prints so, and where there is no work to do `no-such`
abbrev pub IsWork : By → Act → Bool → List Note → Type 0
IsWork by a waits [] = IsTrue waits
IsWork by a waits (note ∷ []) = IsNote by a note × (is_no_such note.reply ≡ not waits)
IsWork by a waits _ = ⊥

abbrev pub is_started : Reply → Bool
is_started (reply.Job job) = true
is_started _ = false

-- what follows the beginning of a job: its failure, or its put
abbrev pub IsFinish : By → ℕ → Note → Type 0
IsFinish by job note =
    (IsNote by (act.Build job) note × (is_no_such note.reply ≡ false)) ⊎ (IsNote by (act.Put job) note × (is_not_yet note.reply ≡ false))

-- a job from its beginning to its end
abbrev pub IsWhole : By → Act → List Note → Type 0
IsWhole by a (first ∷ []) = IsNote by a first × (is_started first.reply ≡ false)
IsWhole by a (first ∷ second ∷ []) = IsNote by a first × ((job : ℕ) × (first.reply ≡ reply.Job job) × IsFinish by job second)
IsWhole by a _ = ⊥

abbrev pub is_took : Reply → Bool
is_took (reply.Took num) = true
is_took _ = false

abbrev pub is_remove : Act → Bool
is_remove (act.Remove num) = true
is_remove _ = false

-- the removal of the number failed
abbrev pub IsRemoval : Option ℕ → Note → Type 0
IsRemoval None note = ⊥
IsRemoval (Some num) note = IsNote Db (act.Remove num) note

abbrev pub IsTaking : Note → Type 0
IsTaking note = IsNote Db act.Reap note × IsTrue (is_took note.reply)

-- Numbers are taken one after the other until nothing is dead, each followed by its removal where that failed.
-- `last` is the number whose removal may come next.
abbrev pub IsDrainBehind : Option ℕ → Plain → List Note → Type 0
IsDrainBehind last p [] = dead p ≡ []
IsDrainBehind last p (note ∷ notes) =
    (IsRemoval last note × IsDrainBehind None (after p note) notes)
    ⊎ (IsTaking note × (is_empty (dead p) ≡ false) × IsDrainBehind (took note.reply) (after p note) notes)

abbrev pub IsDrain : Plain → List Note → Type 0
IsDrain p notes = IsDrainBehind None p notes

abbrev pub IsReaped : Plain → List ℕ → List Note → Type 0
IsReaped p [] notes = IsOne Db act.Reap notes
IsReaped p (n ∷ ns) notes = IsDrain p notes

-- where nothing is dead at first, one note says so
abbrev pub IsReap : Plain → List Note → Type 0
IsReap p notes = IsReaped p (dead p) notes

-- the tables of these names
abbrev pub named : List (List ℕ) → List TableOps → List TableOps
named names tables = filter_map (λ name. found_table name tables) names

-- the block of a line
abbrev pub IsBlock : Run → Option By → Cmd → List Note → Type 0
IsBlock r None c notes = notes ≡ []
IsBlock r (Some by) (cmd.Table table) notes = notes ≡ []
IsBlock r (Some by) (cmd.Commit form ops) notes = IsOne by (act.Commit form ops) notes
IsBlock r (Some by) (cmd.Ask question parted) notes = IsAsk by question parted notes
IsBlock r (Some by) (cmd.Settle ask) notes = IsWaited by (act.Settle ask) (question_waits r ask) notes
IsBlock r (Some by) (cmd.Snap name ranges) notes = IsOne by (act.Snap name ranges) notes
IsBlock r (Some by) (cmd.Drop name) notes = IsOne by (act.Drop name) notes
IsBlock r (Some by) (cmd.Status name form) notes = IsOne by (act.Status name form) notes
IsBlock r (Some by) (cmd.Cursor name range at) notes = IsOne by (act.Cursor name range at) notes
IsBlock r (Some by) (cmd.Shut name) notes = IsOne by (act.Shut name) notes
IsBlock r (Some by) (cmd.Load load names span) notes = IsLoading by (act.LoadOpen load (named names r.tables) span) notes
IsBlock r (Some by) (cmd.Install load) notes = IsOne by (act.Install load) notes
IsBlock r (Some by) cmd.Seal notes = IsOne by act.Seal notes
IsBlock r (Some by) cmd.FlushTake notes = IsOne by act.FlushTake notes
IsBlock r (Some by) (cmd.Put job) notes = IsWaited by (act.Put job) (job_waits r job) notes
IsBlock r (Some by) (cmd.CompactTake which) notes = IsOne by (act.CompactTake which) notes
IsBlock r (Some by) (cmd.Build job) notes = IsWork by (act.Build job) (job_waits r job) notes
IsBlock r (Some by) (cmd.Work ask) notes = IsWork by (act.Work ask) (question_waits r ask) notes
IsBlock r (Some by) cmd.Flush notes = IsWhole by act.FlushTake notes
IsBlock r (Some by) (cmd.Compact which) notes = IsWhole by (act.CompactTake which) notes
IsBlock r (Some by) cmd.Reap notes = IsReap r.plain notes
IsBlock r (Some by) (cmd.Show what) notes = IsOne by (act.Show what) notes

-- one note, or two where the first is the beginning of something
abbrev pub one_or_two : (Reply → Bool) → List Note → ℕ
one_or_two begins [] = 1
one_or_two begins (note ∷ notes) = if begins note.reply then 2 else 1

abbrev pub is_build_of : ℕ → Act → Bool
is_build_of job (act.Build j) = j == job
is_build_of job _ = false

abbrev pub is_work_of : ℕ → Act → Bool
is_work_of ask (act.Work q) = q == ask
is_work_of ask _ = false

-- work that is waited for has a note where the next note is its failure; other work has its `no-such`
abbrev pub work_len : (Act → Bool) → Bool → List Note → ℕ
work_len is_work waits [] = if waits then 0 else 1
work_len is_work waits (note ∷ notes) = if waits && not (is_work note.act && not (is_no_such note.reply)) then 0 else 1

-- the removal that may follow a number taken
abbrev pub removal_len : List Note → ℕ
removal_len [] = 0
removal_len (note ∷ notes) = if is_remove note.act then 1 else 0

-- the notes until nothing is dead
abbrev pub drain_len : Plain → List Note → ℕ
drain_len p [] = 0
drain_len p (note ∷ notes) =
    if is_remove note.act then 1 + drain_len (after p note) notes else (
    if is_empty (dead p) then 0 else 1 + drain_len (after p note) notes)

abbrev pub reap_len : Plain → List Note → ℕ
reap_len p notes = if is_empty (dead p) then 1 else drain_len p notes

-- how many of the notes belong to the next line
abbrev pub block_len : Run → Option By → Cmd → List Note → ℕ
block_len r None c notes = 0
block_len r (Some by) (cmd.Table table) notes = 0
block_len r (Some by) (cmd.Ask question parted) notes = if parted then 1 else one_or_two is_asked notes
block_len r (Some by) (cmd.Load load names span) notes = one_or_two is_opening notes
block_len r (Some by) (cmd.Build job) notes = work_len (is_build_of job) (job_waits r job) notes
block_len r (Some by) (cmd.Work ask) notes = work_len (is_work_of ask) (question_waits r ask) notes
block_len r (Some by) cmd.Flush notes = one_or_two is_started notes
block_len r (Some by) (cmd.Compact which) notes = one_or_two is_started notes
block_len r (Some by) cmd.Reap notes = reap_len r.plain notes
block_len r (Some by) _ notes = 1

-- the job that an act puts
abbrev pub put_by : Act → List ℕ
put_by (act.Put job) = job ∷ []
put_by _ = []

-- the job that is put behind its beginning
abbrev pub put_second : List Note → List ℕ
put_second (first ∷ second ∷ []) = put_by second.act
put_second _ = []

-- jobs and questions whose work a line delivers
abbrev pub built_by : Cmd → List Note → List ℕ
built_by (cmd.Build job) [] = job ∷ []
built_by cmd.Flush notes = put_second notes
built_by (cmd.Compact which) notes = put_second notes
built_by _ notes = []

abbrev pub worked_by : Cmd → List Note → List ℕ
worked_by (cmd.Work ask) [] = ask ∷ []
worked_by _ notes = []

-- the run behind a line
abbrev pub run_after : Run → Cmd → List Note → Run
run_after r c block =
    run_at (after_all r.plain block) (r.built ++ built_by c block) (r.worked ++ worked_by c block) (tables_below r.tables c)

-- the notes are the blocks of the lines, in order
abbrev pub AreBlocks : Run → List Line → List Note → Type 0
AreBlocks r [] notes = notes ≡ []
AreBlocks r (line ∷ lines) notes =
    let len = block_len r line.by line.cmd notes in
    IsBlock r line.by line.cmd (take len notes) × AreBlocks (run_after r line.cmd (take len notes)) lines (drop len notes)

-- the run behind the lines
abbrev pub run_over : Run → List Line → List Note → Run
run_over r [] notes = r
run_over r (line ∷ lines) notes =
    let len = block_len r line.by line.cmd notes in
    run_over (run_after r line.cmd (take len notes)) lines (drop len notes)

-- how many notes are in the blocks of the lines
abbrev pub blocks_len : Run → List Line → List Note → ℕ
blocks_len r [] notes = 0
blocks_len r (line ∷ lines) notes =
    let len = block_len r line.by line.cmd notes in
    len + blocks_len (run_after r line.cmd (take len notes)) lines (drop len notes)

-- the blocks of the lines, and then the drain
abbrev pub IsRunOf : ℕ → ℕ → List Line → List Note → Type 0
IsRunOf first_seq first_file lines notes =
    let r = first_run (opening first_seq first_file) in
    let len = blocks_len r lines notes in
    AreBlocks r lines (take len notes) × IsDrain (after_all r.plain (take len notes)) (drop len notes)
