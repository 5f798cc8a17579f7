-- Runs of scripts by workers, and how far a client has come in its lines.
use Rattle.std.specs.Prelude.{ℕ, false, List, [], ◌∷◌, ◌++◌, replicate, None, Some, codes}
use Rattle.xdb_key.specs.Bounds.{Bounds}
use Rattle.xdb_key.specs.declared.op.Op.TheVariants.{Del}
use Rattle.xdb_plain.specs.Workers.{HasCome}
use Rattle.xdb_plain.specs.declared.act.Act.TheVariants as act
use Rattle.xdb_plain.specs.declared.act.StatusForm.TheVariants as status_form
use Rattle.xdb_plain.specs.declared.act.Which.TheVariants.{Auto}
use Rattle.xdb_plain.specs.declared.act.By.TheVariants.{Client}
use Rattle.xdb_plain.specs.declared.answer.Answer.TheVariants.{Absent}
use Rattle.xdb_plain.specs.declared.note.HoldNote.TheVariants.{Hold, Release}
use Rattle.xdb_plain.specs.declared.note.Note.{Note}
use Rattle.xdb_plain.specs.declared.reply.Reply.TheVariants as reply
use Rattle.xdb_plain.specs.declared.script.Cmd.TheVariants as cmd
use Rattle.xdb_plain.specs.declared.script.Line.{Line}
use Rattle.xdb_rows.specs.Judged.{RunCase, run, no_run}
use Rattle.xdb_rows.specs.Lines as line
use Rattle.xdb_rows.specs.Lines.{Said, lines}
use Rattle.xdb_rows.specs.Loads.{only_a}
use Rattle.xdb_rows.specs.Notes.{note, c1, c2, db, holding, trying, from_to, table_of_key, put, batch, put_flush, flushed, get, ask_held, ask_answered, excise, compact_l0}

abbrev pub puts_a : Said
puts_a = line.c1 (line.put (codes "a") (codes "1"))

abbrev pub put_a : Note
put_a = c1 (put (codes "a") (codes "1")) reply.Done

-- a group is sealed, and its flush begins
abbrev pub flush_taken : List Note
flush_taken = put_a ∷ db act.Seal (reply.Group 1) ∷ db act.FlushTake (reply.Job 1) ∷ []

abbrev pub put_1 : Note
put_1 = put_flush 1 (table_of_key 1 (codes "a") 1)

-- no group and no job is left
abbrev pub left_over : List RunCase
left_over =
    run (lines (puts_a ∷ [])) (put_a ∷ [])
    ∷ run (lines (puts_a ∷ [])) (flush_taken ++ put_1 ∷ [])
    -- a sealed group
    ∷ no_run (lines (puts_a ∷ [])) (put_a ∷ db act.Seal (reply.Group 1) ∷ [])
    -- a flush
    ∷ no_run (lines (puts_a ∷ [])) flush_taken
    -- a compaction alone
    ∷ no_run (lines (puts_a ∷ []))
    (flush_taken ++ put_1 ∷ holding (db (compact_l0 (from_to (codes "a") (codes "b"))) (reply.Job 2))
    (Hold 1 1 ∷ []) ∷ [])
    ∷ []

-- a batch of so many operations
abbrev pub many : ℕ → Said
many n = line.c1 (line.batch (replicate n (Del (codes "a"))))

abbrev pub many_done : ℕ → Note
many_done n = c1 (batch (replicate n (Del (codes "a")))) reply.Done

-- the active group is due for a flush with 256 operations
abbrev pub active_group : List RunCase
active_group =
    run (lines (many 255 ∷ [])) (many_done 255 ∷ [])
    ∷ no_run (lines (many 256 ∷ [])) (many_done 256 ∷ [])
    ∷ []

abbrev pub key_flushed : ℕ → List Note
key_flushed n = put_a ∷ flushed n n (table_of_key n (codes "a") n)

abbrev pub three_flushed : List Note
three_flushed = key_flushed 1 ++ key_flushed 2 ++ key_flushed 3

-- no compaction is left to do
abbrev pub compaction_left : List RunCase
compaction_left =
    -- three tables in L0, and four
    run (lines (puts_a ∷ puts_a ∷ puts_a ∷ [])) three_flushed
    ∷ no_run (lines (puts_a ∷ puts_a ∷ puts_a ∷ puts_a ∷ [])) (three_flushed ++ key_flushed 4)
    -- its beginning failed
    ∷ run (lines (puts_a ∷ puts_a ∷ puts_a ∷ puts_a ∷ []))
    (three_flushed ++ key_flushed 4 ++ db (act.CompactTake Auto) reply.Memory ∷ [])
    ∷ []

abbrev pub took : ℕ → Note
took num = db act.Reap (reply.Took num)

abbrev pub gets_a : Said
gets_a = line.c1 (line.ask (get (codes "a")))

-- where the last flush or compaction failed, behind all that clients did, work may be left
abbrev pub failed_at_last : List RunCase
failed_at_last =
    run (lines (puts_a ∷ [])) (flush_taken ++ db (act.Build 1) reply.Fault ∷ [])
    ∷ run (lines (puts_a ∷ [])) (flush_taken ++ db (act.Build 1) reply.Memory ∷ [])
    ∷ run (lines (puts_a ∷ [])) (flush_taken ++ db (act.Build 1) (reply.Damaged 1 0) ∷ [])
    ∷ run (lines (puts_a ∷ [])) (flush_taken ++ db (act.Put 1) reply.Memory ∷ [])
    ∷ run (lines (puts_a ∷ [])) (put_a ∷ db act.Seal (reply.Group 1) ∷ db act.FlushTake reply.Memory ∷ [])
    ∷ run (lines (puts_a ∷ [])) (put_a ∷ db act.Seal (reply.Group 1)
    ∷ db (act.CompactTake Auto) reply.Memory ∷ [])
    -- behind it only what no flush and no compaction goes by
    ∷ run (lines (puts_a ∷ [])) (flush_taken ++ trying (db (act.Build 1) reply.Fault) (1 ∷ []) ∷ took 1
    ∷ db (act.Remove 1) reply.Stuck ∷ [])
    -- a client's note behind it
    ∷ no_run (lines (puts_a ∷ line.c1 (cmd.Shut (codes "k")) ∷ []))
    (flush_taken ++ db (act.Build 1) reply.Fault ∷ c1 (act.Shut (codes "k")) reply.NoSuch ∷ [])
    -- a flush behind it
    ∷ no_run (lines (puts_a ∷ [])) (flush_taken ++ db (act.Build 1) reply.Fault
    ∷ db act.FlushTake (reply.Job 2) ∷ [])
    -- nothing failed
    ∷ no_run (lines (puts_a ∷ [])) (flush_taken ++ db act.FlushTake reply.Nothing ∷ [])
    ∷ no_run (lines (puts_a ∷ [])) (flush_taken ++ db (act.CompactTake Auto) reply.Nothing ∷ [])
    -- what failed is a client's, or a removal
    ∷ no_run (lines (puts_a ∷ puts_a ∷ []))
    (flush_taken ++ c1 (put (codes "a") (codes "1")) reply.Memory ∷ [])
    ∷ no_run (lines (puts_a ∷ []))
    (flush_taken ++ trying (db (act.Build 1) reply.Fault) (1 ∷ []) ∷ db act.FlushTake (reply.Job 2)
    ∷ took 1 ∷ db (act.Remove 1) reply.Memory ∷ [])
    ∷ []

-- nothing dead is left
abbrev pub dead_left : List RunCase
dead_left =
    run (lines (puts_a ∷ [])) (flush_taken ++ trying (db (act.Build 1) reply.Fault) (1 ∷ []) ∷ took 1 ∷ [])
    ∷ no_run (lines (puts_a ∷ [])) (flush_taken ++ trying (db (act.Build 1) reply.Fault) (1 ∷ []) ∷ [])
    ∷ []

-- workers look for no work that isn't there, and put only what was built
abbrev pub due_replies : List RunCase
due_replies =
    no_run [] (db (act.Build 1) reply.NoSuch ∷ [])
    ∷ no_run [] (db (act.Work 1) reply.NoSuch ∷ [])
    ∷ no_run (lines (puts_a ∷ [])) (flush_taken ++ db (act.Put 1) reply.NotYet ∷ put_1 ∷ [])
    -- an install may find that the load is opening, and there may be no such job to put
    ∷ run (lines (line.table only_a ∷ line.c1 (cmd.Load (codes "l1") (codes "t" ∷ []) None)
    ∷ line.c2 (cmd.Install (codes "l1")) ∷ []))
    (c1 (act.LoadOpen (codes "l1") (only_a ∷ []) None) reply.Opening
    ∷ c2 (act.Install (codes "l1")) reply.NotYet
    ∷ c1 (act.LoadOpen (codes "l1") (only_a ∷ []) None) reply.Opened
    ∷ [])
    ∷ run [] (db (act.Put 1) reply.NoSuch ∷ [])
    -- notes that no worker makes
    ∷ run [] (db act.Seal reply.Nothing ∷ db act.FlushTake reply.Nothing ∷ db act.Reap reply.Nothing ∷ [])
    ∷ []

abbrev pub excises : Said
excises = line.c1 (cmd.Load (codes "l1") [] (Some (from_to (codes "a") (codes "m"))))

abbrev pub installs : Said
installs = line.c1 (cmd.Install (codes "l1"))

abbrev pub excise_waits : Note
excise_waits = c1 (act.Install (codes "l1")) (reply.Waits 1)

-- the excise seals the group
abbrev pub excise_opened : List Note
excise_opened = put_a ∷ excise (codes "l1") (from_to (codes "a") (codes "m")) ∷ []

abbrev pub build_fails : List Note
build_fails = db act.FlushTake (reply.Job 1) ∷ db (act.Build 1) reply.Fault ∷ []

abbrev pub flush_again : ℕ → List Note
flush_again job = db act.FlushTake (reply.Job job) ∷ put_flush job (table_of_key job (codes "a") 1) ∷ []

-- a load waits at most as often as something failed
abbrev pub load_waits : List RunCase
load_waits =
    run (lines (puts_a ∷ excises ∷ installs ∷ []))
    (excise_opened ++ build_fails ++ excise_waits ∷ flush_again 2)
    ∷ no_run (lines (puts_a ∷ excises ∷ installs ∷ [])) (excise_opened ++ excise_waits ∷ flush_again 1)
    ∷ no_run (lines (puts_a ∷ excises ∷ installs ∷ installs ∷ []))
    (excise_opened ++ build_fails ++ excise_waits ∷ excise_waits ∷ flush_again 2)
    -- in any order, and whatever failed
    ∷ run (lines (puts_a ∷ excises ∷ installs ∷ []))
    (excise_opened ++ excise_waits ∷ db act.FlushTake (reply.Job 1)
    ∷ db (act.Build 1) (reply.Damaged 1 0) ∷ flush_again 2)
    ∷ run (lines (puts_a ∷ excises ∷ installs ∷ []))
    (excise_opened ++ excise_waits ∷ db act.FlushTake reply.Memory ∷ flush_again 1)
    ∷ run (lines (puts_a ∷ excises ∷ installs ∷ installs ∷ []))
    (excise_opened ++ excise_waits ∷ excise_waits ∷ db act.FlushTake (reply.Job 1)
    ∷ trying (db (act.Build 1) reply.Fault) (1 ∷ [])
    ∷ took 1 ∷ db (act.Remove 1) reply.Stuck ∷ flush_again 2)
    ∷ []

abbrev pub snaps : Said
snaps = line.c1 (cmd.Snap (codes "s1") (from_to (codes "a") (codes "m") ∷ []))

abbrev pub pinned : List Note
pinned = put_a ∷ c1 (act.Snap (codes "s1") (from_to (codes "a") (codes "m") ∷ [])) (reply.Pinned 1) ∷ []

-- so does one who waits for a snapshot
abbrev pub await_waits : List RunCase
await_waits =
    no_run (lines (puts_a ∷ snaps ∷ line.c1 (cmd.Status (codes "s1") status_form.Await) ∷ []))
    (pinned ++ c1 (act.Status (codes "s1") status_form.Await) (reply.Pinned 1) ∷ [])
    ∷ run (lines (puts_a ∷ snaps ∷ line.c1 (cmd.Status (codes "s1") status_form.Await) ∷ puts_a ∷ []))
    (pinned ++ c1 (act.Status (codes "s1") status_form.Await) (reply.Pinned 1)
    ∷ c1 (put (codes "a") (codes "1")) reply.Memory ∷ [])
    -- one who asks for its state doesn't wait
    ∷ run (lines (puts_a ∷ snaps ∷ line.c1 (cmd.Status (codes "s1") status_form.Status) ∷ []))
    (pinned ++ c1 (act.Status (codes "s1") status_form.Status) (reply.Pinned 1) ∷ [])
    -- a snapshot that isn't pinned
    ∷ run (lines (snaps ∷ line.c1 (cmd.Status (codes "s1") status_form.Await) ∷ []))
    (holding (c1 (act.Snap (codes "s1") (from_to (codes "a") (codes "m") ∷ [])) reply.FileOnly)
    (Hold 1 0 ∷ [])
    ∷ c1 (act.Status (codes "s1") status_form.Await) reply.FileOnly ∷ [])
    ∷ []

abbrev pub puts_b : Said
puts_b = line.c1 (line.put (codes "b") (codes "1"))

abbrev pub put_b : Note
put_b = c1 (put (codes "b") (codes "1")) reply.Done

abbrev pub puts_c : Said
puts_c = line.c2 (line.put (codes "c") (codes "1"))

abbrev pub put_c : Note
put_c = c2 (put (codes "c") (codes "1")) reply.Done

abbrev pub puts_16 : Said
puts_16 = record { said_by = Some (Client 16); cmd = line.put (codes "a") (codes "1") }

-- each client's lines have their notes, in order
abbrev pub clients_in_order : List RunCase
clients_in_order =
    run (lines (puts_a ∷ puts_b ∷ puts_c ∷ [])) (put_a ∷ put_b ∷ put_c ∷ [])
    ∷ run (lines (puts_a ∷ puts_b ∷ puts_c ∷ [])) (put_c ∷ put_a ∷ put_b ∷ [])
    ∷ run (lines (puts_a ∷ puts_b ∷ puts_c ∷ [])) (put_a ∷ put_c ∷ put_b ∷ [])
    ∷ no_run (lines (puts_a ∷ puts_b ∷ puts_c ∷ [])) (put_b ∷ put_a ∷ put_c ∷ [])
    ∷ no_run (lines (puts_a ∷ puts_b ∷ puts_c ∷ [])) (put_a ∷ put_c ∷ [])
    ∷ no_run (lines (puts_a ∷ puts_b ∷ puts_c ∷ [])) (put_a ∷ put_b ∷ [])
    ∷ no_run (lines (puts_a ∷ puts_b ∷ puts_c ∷ [])) (put_a ∷ put_b ∷ put_c ∷ put_c ∷ [])
    ∷ no_run (lines (puts_a ∷ puts_b ∷ puts_c ∷ [])) (put_a ∷ put_a ∷ put_b ∷ put_c ∷ [])
    -- another client than the one who said it
    ∷ no_run (lines (puts_a ∷ [])) (c2 (put (codes "a") (codes "1")) reply.Done ∷ [])
    ∷ no_run [] (put_a ∷ [])
    -- the last client
    ∷ run (lines (puts_16 ∷ [])) (note (Client 16) (put (codes "a") (codes "1")) reply.Done ∷ [])
    ∷ no_run (lines (puts_16 ∷ [])) []
    ∷ []

abbrev pub asked_a : Note
asked_a = ask_held 1 (get (codes "a")) false (Hold 1 0)

abbrev pub answered_a : Note
answered_a = ask_answered 1 (get (codes "a")) 1 (reply.Answered Absent)

-- a read may be answered behind others' notes, and not behind its own client's next command
abbrev pub reads_between : List RunCase
reads_between =
    run (lines (gets_a ∷ puts_b ∷ puts_c ∷ [])) (asked_a ∷ put_c ∷ answered_a ∷ put_b ∷ [])
    ∷ no_run (lines (gets_a ∷ puts_b ∷ puts_c ∷ [])) (asked_a ∷ put_c ∷ put_b ∷ answered_a ∷ [])
    ∷ no_run (lines (gets_a ∷ puts_c ∷ [])) (asked_a ∷ put_c ∷ [])
    -- answered to another client
    ∷ no_run (lines (gets_a ∷ [])) (asked_a
    ∷ holding (c2 (act.Ask 1 (get (codes "a")) false) (reply.Answered Absent)) (Release 1 ∷ []) ∷ [])
    ∷ []

abbrev pub loads : Said → List Said
loads again = line.table only_a ∷ line.c1 (cmd.Load (codes "l1") (codes "t" ∷ []) None) ∷ again ∷ []

abbrev pub load_opened : List Note
load_opened =
    c1 (act.LoadOpen (codes "l1") (only_a ∷ []) None) reply.Opening
    ∷ c1 (act.LoadOpen (codes "l1") (only_a ∷ []) None) reply.Opened
    ∷ []

abbrev pub m_to_z : Bounds
m_to_z = from_to (codes "m") (codes "z")

-- a table is defined for every client
abbrev pub defined_for_all : List RunCase
defined_for_all =
    run (lines (loads (line.c2 (cmd.Load (codes "l2") (codes "t" ∷ []) None))))
    (load_opened ++ c2 (act.LoadOpen (codes "l2") (only_a ∷ []) None) (reply.Fenced (codes "l1")) ∷ [])
    -- the second client's load without it
    ∷ no_run (lines (loads (line.c2 (cmd.Load (codes "l2") (codes "t" ∷ []) (Some m_to_z)))))
    (load_opened ++ c2 (act.LoadOpen (codes "l2") [] (Some m_to_z)) reply.Opened ∷ [])
    ∷ []

-- a run from another first file number on, whose last compaction failed to begin
abbrev pub ends_in_vain : Note
ends_in_vain = db (act.CompactTake Auto) reply.Memory

abbrev pub puts_lines : List Line
puts_lines = lines (puts_a ∷ [])

-- lines of a client, how many are done, what there is of the next one's block, and the notes by the client
pub record Place : Type 0 where
  pub lines : List Line
  pub done : ℕ
  pub begun : List Note
  pub notes : List Note

abbrev pub place : List Said → ℕ → List Note → List Note → Place
place said done begun notes = record { lines = lines said; done = done; begun = begun; notes = notes }

-- so far a client has come, or it can't have
pub data Come : Type 0 where
  come : Place → Come
  not_come : Place → Come

abbrev pub IsCome : Come → Type 0
IsCome (come p) = HasCome p.lines p.done p.begun p.notes
IsCome (not_come p) = HasCome p.lines p.done p.begun p.notes → ⊥

abbrev pub AreCome : List Come → Type 0
AreCome [] = Unit {0}
AreCome (c ∷ cs) = IsCome c × AreCome cs

-- a read, a commit, and a load of a table that is defined just above it
abbrev pub four_lines : List Said
four_lines = gets_a ∷ puts_b ∷ line.table only_a ∷ line.c1 (cmd.Load (codes "l1") (codes "t" ∷ []) None) ∷ []

abbrev pub two_done : List Note
two_done = asked_a ∷ answered_a ∷ put_b ∷ []

abbrev pub opening_l1 : Note
opening_l1 = c1 (act.LoadOpen (codes "l1") (only_a ∷ []) None) reply.Opening

-- what there may be
abbrev pub ways : List Come
ways =
    come (place four_lines 0 [] [])
    -- a read is under way
    ∷ come (place four_lines 0 (asked_a ∷ []) (asked_a ∷ []))
    ∷ come (place four_lines 1 [] (asked_a ∷ answered_a ∷ []))
    -- a table has no notes
    ∷ come (place four_lines 2 [] two_done)
    ∷ come (place four_lines 3 [] two_done)
    -- a load is under way
    ∷ come (place four_lines 3 (opening_l1 ∷ []) (two_done ++ opening_l1 ∷ []))
    -- all is said
    ∷ come (place four_lines 4 [] (two_done ++ load_opened))
    ∷ []

-- what is done is counted right
abbrev pub miscounted : List Come
miscounted =
    -- too far
    not_come (place four_lines 1 [] [])
    ∷ not_come (place four_lines 1 [] (asked_a ∷ []))
    ∷ not_come (place four_lines 4 [] two_done)
    -- not far enough
    ∷ not_come (place four_lines 0 [] (asked_a ∷ answered_a ∷ []))
    -- more lines than there are
    ∷ not_come (place four_lines 5 [] (two_done ++ load_opened))
    -- out of order
    ∷ not_come (place four_lines 2 [] (put_b ∷ asked_a ∷ answered_a ∷ []))
    ∷ []

-- what is under way is the beginning of the next line's block, and the last of the notes
abbrev pub under_way_wrong : List Come
under_way_wrong =
    -- of another line
    not_come (place four_lines 0 (opening_l1 ∷ []) (opening_l1 ∷ []))
    ∷ not_come (place four_lines 2 (opening_l1 ∷ []) (two_done ++ opening_l1 ∷ []))
    ∷ not_come (place (line.c1 (line.ask (get (codes "b"))) ∷ []) 0 (asked_a ∷ []) (asked_a ∷ []))
    ∷ not_come (place (line.c2 (line.ask (get (codes "a"))) ∷ []) 0 (asked_a ∷ []) (asked_a ∷ []))
    -- behind the last line
    ∷ not_come (place four_lines 4 (opening_l1 ∷ []) (two_done ++ load_opened ++ opening_l1 ∷ []))
    -- the whole block
    ∷ not_come (place four_lines 1 (put_b ∷ []) two_done)
    ∷ not_come (place four_lines 0 (asked_a ∷ answered_a ∷ []) (asked_a ∷ answered_a ∷ []))
    -- a refusal
    ∷ not_come (place four_lines 0 (c1 (act.Ask 0 (get (codes "a")) false) reply.Memory ∷ [])
    (c1 (act.Ask 0 (get (codes "a")) false) reply.Memory ∷ []))
    ∷ not_come (place (excises ∷ []) 0 (excise (codes "l1") (from_to (codes "a") (codes "m")) ∷ [])
    (excise (codes "l1") (from_to (codes "a") (codes "m")) ∷ []))
    -- a load of a table that isn't defined, or is defined below
    ∷ not_come (place (line.c1 (cmd.Load (codes "l1") (codes "t" ∷ []) None) ∷ []) 0 (opening_l1 ∷ [])
    (opening_l1 ∷ []))
    ∷ not_come (place (line.c1 (cmd.Load (codes "l1") (codes "t" ∷ []) None)
    ∷ line.table only_a ∷ []) 0 (opening_l1 ∷ []) (opening_l1 ∷ []))
    -- a question in parts
    ∷ not_come (place (line.c1 (line.ask_in_parts (get (codes "a"))) ∷ []) 0 (asked_a ∷ []) (asked_a ∷ []))
    -- not among the notes, or not the last of them
    ∷ not_come (place four_lines 0 (asked_a ∷ []) [])
    ∷ not_come (place four_lines 0 (asked_a ∷ []) (asked_a ∷ answered_a ∷ []))
    ∷ []
