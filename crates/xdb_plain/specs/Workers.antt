-- Runs of a script by workers: each client's lines have their blocks in order among the notes by that client.
use Rattle.std.specs.Prelude.{◌≡◌, ℕ, ◌≤◌, Bool, true, false, not, ◌&&◌, ◌||◌, List, [], ◌∷◌, ◌++◌, length, filter, take, drop, reverse, Option, Some, None, nat_lt, IsTrue, if◌then◌else◌}
use Rattle.std.specs.List.{list_all}
use Rattle.xdb_edit.specs.Plans.{pick}
use Rattle.xdb_plain.specs.Answers.{first_of}
use Rattle.xdb_plain.specs.Counts.{dead}
use Rattle.xdb_plain.specs.Legal.{after_all}
use Rattle.xdb_plain.specs.Replies.{same_by}
use Rattle.xdb_plain.specs.Runs.{IsNote, IsBlock, block_len, run_at, named, is_not_yet, is_no_such}
use Rattle.xdb_plain.specs.Scripts.{tables_below}
use Rattle.xdb_plain.specs.State.{Plain, opening}
use Rattle.xdb_plain.specs.Steps.{is_db}
use Rattle.xdb_plain.specs.Tables.{TableOps}
use Rattle.xdb_plain.specs.declared.act.Act.{Act}
use Rattle.xdb_plain.specs.declared.act.Act.TheVariants as act
use Rattle.xdb_plain.specs.declared.act.By.{By}
use Rattle.xdb_plain.specs.declared.act.By.TheVariants.{Client}
use Rattle.xdb_plain.specs.declared.act.StatusForm.TheVariants as status_form
use Rattle.xdb_plain.specs.declared.reply.Reply.{Reply}
use Rattle.xdb_plain.specs.declared.reply.Reply.TheVariants as reply
use Rattle.xdb_plain.specs.declared.note.Note.{Note}
use Rattle.xdb_plain.specs.declared.script.Cmd.{Cmd}
use Rattle.xdb_plain.specs.declared.script.Cmd.TheVariants as cmd
use Rattle.xdb_plain.specs.declared.script.Line.{Line}

abbrev pub notes_by : By → List Note → List Note
notes_by by notes = filter (λ note. same_by note.by by) notes

-- it is said by this one, or by none
abbrev pub is_said : By → Option By → Bool
is_said by None = true
is_said by (Some other) = same_by other by

-- the lines of a client, and those that define tables for all
abbrev pub lines_by : By → List Line → List Line
lines_by by lines = filter (λ line. is_said by line.by) lines

-- The notes are the blocks of a client's lines, in order. Such a block depends on no state, so the tables are all
-- that is carried on.
abbrev pub AreClientBlocks : List TableOps → List Line → List Note → Type 0
AreClientBlocks tables [] notes = notes ≡ []
AreClientBlocks tables (line ∷ lines) notes =
    let r = run_at (opening 1 1) [] [] tables in
    let len = block_len r line.by line.cmd notes in
    IsBlock r line.by line.cmd (take len notes) × AreClientBlocks (tables_below tables line.cmd) lines (drop len notes)

-- the tables that lines define, behind others
abbrev pub tables_over : List TableOps → List Line → List TableOps
tables_over tables [] = tables
tables_over tables (line ∷ lines) = tables_over (tables_below tables line.cmd) lines

-- What there is of the block of a command that is under way: nothing, or the note of its beginning.
abbrev pub IsBegun : List TableOps → Option By → Cmd → List Note → Type 0
IsBegun tables by c [] = Unit {0}
IsBegun tables (Some by) (cmd.Ask question parted) (note ∷ []) =
    (parted ≡ false) × ((ask : ℕ) × IsNote by (act.Ask ask question false) note × (note.reply ≡ reply.Asked ask))
IsBegun tables (Some by) (cmd.Load load names span) (note ∷ []) =
    IsNote by (act.LoadOpen load (named names tables) span) note × (note.reply ≡ reply.Opening)
IsBegun tables by c _ = ⊥

-- Behind the last line nothing is under way.
abbrev pub IsUnderWay : List TableOps → Option Line → List Note → Type 0
IsUnderWay tables None begun = begun ≡ []
IsUnderWay tables (Some line) begun = IsBegun tables line.by line.cmd begun

-- How far a client has come in its lines: so many are done, and of the next one's block there is the beginning.
pub record HasCome (lines : List Line) (done : ℕ) (begun notes : List Note) : Type 0 where
  pub blocks : List Note
  pub whole : notes ≡ blocks ++ begun
  pub within : done ≤ length lines
  pub are_done : AreClientBlocks [] (take done lines) blocks
  pub under_way : IsUnderWay (tables_over [] (take done lines)) (first_of (drop done lines)) begun

abbrev pub is_work : Act → Bool
is_work (act.Build job) = true
is_work (act.Work ask) = true
is_work _ = false

abbrev pub is_install : Act → Bool
is_install (act.Install load) = true
is_install _ = false

-- workers look for no work that isn't there, and put and settle only what was delivered
abbrev pub is_due_reply : Note → Bool
is_due_reply note = not (is_work note.act && is_no_such note.reply) && (is_install note.act || not (is_not_yet note.reply))

-- what a flush or a compaction goes by
abbrev pub is_upkeep : Act → Bool
is_upkeep act.FlushTake = true
is_upkeep (act.CompactTake which) = true
is_upkeep (act.Build job) = true
is_upkeep (act.Put job) = true
is_upkeep _ = false

abbrev pub is_upkeep_failure : Reply → Bool
is_upkeep_failure reply.Fault = true
is_upkeep_failure reply.Memory = true
is_upkeep_failure reply.Spent = true
is_upkeep_failure (reply.Damaged backing at) = true
is_upkeep_failure _ = false

-- no flush and no compaction is left to do
pub record IsQuiet (p : Plain) : Type 0 where
  pub jobs : p.jobs ≡ []
  pub sealed : p.sealed ≡ []
  pub active : IsTrue (nat_lt (length p.active.ops) 256)
  pub plan : pick p.current.levels [] ≡ None

-- the first note of a flush or a compaction is a failure, and no client's note stands before it
abbrev pub begins_failed : List Note → Bool
begins_failed [] = false
begins_failed (note ∷ notes) = is_db note.by && (if is_upkeep note.act then is_upkeep_failure note.reply else begins_failed notes)

-- the last flush or compaction failed, behind all that clients did
abbrev pub ends_failed : List Note → Bool
ends_failed notes = begins_failed (reverse notes)

abbrev pub is_await : Act → Bool
is_await (act.Status name status_form.Await) = true
is_await _ = false

-- a client was told to wait
abbrev pub is_wait : Act → Reply → Bool
is_wait a (reply.Waits group) = true
is_wait a (reply.Pinned group) = is_await a
is_wait a _ = false

abbrev pub is_failure : Reply → Bool
is_failure reply.Fault = true
is_failure reply.Stuck = true
is_failure reply.Memory = true
is_failure (reply.Damaged backing at) = true
is_failure _ = false

pub record IsThreadsOf (first_seq first_file : ℕ) (lines : List Line) (notes : List Note) : Type 0 where
  pub clients : (client : ℕ) → 1 ≤ client → client ≤ 16 → AreClientBlocks [] (lines_by (Client client) lines) (notes_by (Client client) notes)
  pub clean : dead (after_all (opening first_seq first_file) notes) ≡ []
  pub due_replies : IsTrue (list_all is_due_reply notes)
  pub quiet : ends_failed notes ≡ false → IsQuiet (after_all (opening first_seq first_file) notes)
  pub few_waits : length (filter (λ note. is_wait note.act note.reply) notes) ≤ length (filter (λ note. is_failure note.reply) notes)
