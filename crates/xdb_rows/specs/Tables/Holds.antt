-- Who takes a hold, of which version, and who lets it go.
use Rattle.std.specs.Prelude.{ℕ, true, false, List, [], ◌∷◌, ◌++◌, take, None, Some, codes}
use Rattle.xdb_edit.specs.Changes.{Changes, changes}
use Rattle.xdb_edit.specs.Versions.{no_tables}
use Rattle.xdb_plain.specs.declared.act.Act.{Act}
use Rattle.xdb_plain.specs.declared.act.Act.TheVariants.{Seal, FlushTake, Put, Build, Work, LoadOpen, LoadKept, Install, Snap, Drop, Status, Cursor, Shut, Ask, Settle, Reap, Remove, Show}
use Rattle.xdb_plain.specs.declared.act.By.TheVariants.{Client}
use Rattle.xdb_plain.specs.declared.act.ShowWhat.TheVariants as show
use Rattle.xdb_plain.specs.declared.act.StatusForm.TheVariants as status_form
use Rattle.xdb_plain.specs.declared.answer.Answer.TheVariants.{Value}
use Rattle.xdb_plain.specs.declared.note.HoldNote.{HoldNote}
use Rattle.xdb_plain.specs.declared.note.HoldNote.TheVariants.{Hold, Release}
use Rattle.xdb_plain.specs.declared.note.Note.{Note}
use Rattle.xdb_plain.specs.declared.question.Question.TheVariants.{Scan, RScan, Move}
use Rattle.xdb_plain.specs.declared.question.Step.TheVariants.{First}
use Rattle.xdb_plain.specs.declared.reply.Reply.{Reply}
use Rattle.xdb_plain.specs.declared.reply.Reply.TheVariants as reply
use Rattle.xdb_rows.specs.Judged.{Case, case, step, no_step, wrong_holds}
use Rattle.xdb_rows.specs.Notes.{note, c1, c2, db, holding, changing, trying, from_to, from_upto, half_of, loaded_table, put, get, get_at, ask_held, ask_answered, let_go, table_of_key, put_flush, flushed, install, compact_l0}
use Rattle.xdb_rows.specs.Reads.{stored_run, question_in_parts}
use Rattle.xdb_rows.specs.Flushes.{change_between_take_and_put}
use Rattle.xdb_rows.specs.Snapshots.{snapshot_refused, cursor_over_excise}
use Rattle.xdb_rows.specs.Loads.{only_a, only_b}
use Rattle.xdb_rows.specs.Excises.{cancelled_compaction, a_to_d, whole_table_reaped}

-- the note lets the hold 1 go
abbrev pub and_release : Note → Note
and_release n = holding n (Release 1 ∷ [])

abbrev pub compact : Act
compact = compact_l0 (from_to (codes "a") (codes "z"))

abbrev pub takes : List Case
takes =
    -- a compaction holds the version that it was planned on
    case (take 4 cancelled_compaction) (
    step (holding (db compact (reply.Job 2)) (Hold 1 1 ∷ []))
    ∷ wrong_holds (db compact (reply.Job 2))
    ∷ wrong_holds (holding (db compact (reply.Job 2)) (Hold 1 0 ∷ []))
    ∷ wrong_holds (holding (db compact (reply.Job 2)) (Hold 1 1 ∷ Hold 2 1 ∷ []))
    ∷ step (db compact reply.Memory)
    ∷ wrong_holds (holding (db compact reply.Memory) (Hold 1 1 ∷ []))
    ∷ [])
    -- a flush holds none
    ∷ case (take 2 change_between_take_and_put) (
    step (db FlushTake (reply.Job 1))
    ∷ wrong_holds (holding (db FlushTake (reply.Job 1)) (Hold 1 0 ∷ []))
    ∷ [])
    ∷ []

abbrev pub failed_jobs : List Case
failed_jobs =
    -- a compaction that fails lets go, whatever the failure
    case (take 5 cancelled_compaction) (
    step (and_release (trying (db (Build 2) reply.Fault) (2 ∷ [])))
    ∷ wrong_holds (trying (db (Build 2) reply.Fault) (2 ∷ []))
    ∷ step (and_release (db (Build 2) (reply.Damaged 1 0)))
    ∷ wrong_holds (db (Build 2) (reply.Damaged 1 0))
    ∷ step (and_release (db (Build 2) reply.Memory))
    ∷ wrong_holds (db (Build 2) reply.Memory)
    ∷ wrong_holds (holding (db (Build 2) reply.Fault) (Release 2 ∷ []))
    ∷ wrong_holds (holding (db (Build 2) reply.Fault) (Release 1 ∷ Release 1 ∷ []))
    ∷ wrong_holds (holding (db (Build 2) reply.Fault) (Release 1 ∷ Hold 2 1 ∷ []))
    ∷ [])
    -- one that goes on doesn't
    ∷ case (take 5 cancelled_compaction) (
    step (db (Build 2) reply.NoSuch)
    ∷ wrong_holds (and_release (db (Build 2) reply.NoSuch))
    ∷ step (db (Put 2) reply.NotYet)
    ∷ wrong_holds (and_release (db (Put 2) reply.NotYet))
    ∷ step (db (Put 2) reply.Memory)
    ∷ wrong_holds (and_release (db (Put 2) reply.Memory))
    ∷ [])
    -- a number that was let go is free
    ∷ case (take 5 cancelled_compaction ++ and_release (db (Build 2) reply.Fault) ∷ []) (
    step (ask_held 1 (get (codes "a")) false (Hold 1 1)) ∷ [])
    -- a flush has nothing to let go, also where there is a hold
    ∷ case (holding (c1 (Cursor (codes "k") (from_to (codes "a") (codes "z")) None) reply.CursorOn) (Hold 1 0 ∷ []) ∷ take 3 change_between_take_and_put) (
    step (trying (db (Build 1) reply.Fault) (1 ∷ []))
    ∷ wrong_holds (and_release (trying (db (Build 1) reply.Fault) (1 ∷ [])))
    ∷ step (put_flush 1 (table_of_key 1 (codes "a") 1))
    ∷ wrong_holds (and_release (put_flush 1 (table_of_key 1 (codes "a") 1)))
    ∷ [])
    ∷ []

abbrev pub cut_compacted : Note
cut_compacted =
    install (codes "l1") (changes ((0, 1) ∷ []) [] ((0, half_of a_to_d 66 (from_upto (codes "a") (codes "a"))) ∷ []))

abbrev pub cancelled_jobs : List Case
cancelled_jobs =
    -- the load that cancels lets nothing go, and takes nothing
    case (take 6 cancelled_compaction) (
    step cut_compacted
    ∷ wrong_holds (and_release cut_compacted)
    ∷ wrong_holds (holding cut_compacted (Hold 2 2 ∷ []))
    ∷ [])
    -- the job does, at its put or where it fails
    ∷ case (take 7 cancelled_compaction) (
    step (and_release (db (Put 2) (reply.Cancelled (codes "l1"))))
    ∷ wrong_holds (db (Put 2) (reply.Cancelled (codes "l1")))
    ∷ step (and_release (db (Build 2) reply.Fault))
    ∷ wrong_holds (db (Build 2) reply.Fault)
    ∷ step (db (Put 2) reply.NotYet)
    ∷ wrong_holds (and_release (db (Put 2) reply.NotYet))
    ∷ no_step (db (Put 2) reply.Memory)
    ∷ [])
    ∷ []

-- a question in parts, asked by the first client
abbrev pub in_parts : List Note
in_parts = take 2 question_in_parts

abbrev pub failed_in_parts : List Case
failed_in_parts =
    case in_parts (
    -- its failure is told by the owner, and lets go
    step (and_release (db (Work 1) reply.Fault))
    ∷ wrong_holds (db (Work 1) reply.Fault)
    ∷ step (and_release (db (Work 1) (reply.Damaged 1 0)))
    ∷ wrong_holds (db (Work 1) (reply.Damaged 1 0))
    ∷ step (and_release (db (Work 1) reply.Memory))
    ∷ wrong_holds (db (Work 1) reply.Memory)
    ∷ no_step (and_release (c1 (Work 1) reply.Fault))
    ∷ no_step (and_release (c1 (Ask 1 (get (codes "c")) true) reply.Fault))
    ∷ no_step (c1 (Settle 1) reply.Fault)
    -- what doesn't end it lets nothing go
    ∷ step (db (Work 1) reply.NoSuch)
    ∷ wrong_holds (and_release (db (Work 1) reply.NoSuch))
    ∷ step (c1 (Settle 1) reply.NotYet)
    ∷ wrong_holds (and_release (c1 (Settle 1) reply.NotYet))
    -- any client may wait for its answer, and the owner may not
    ∷ step (c2 (Settle 1) reply.NotYet)
    ∷ no_step (db (Settle 1) reply.NotYet)
    ∷ [])
    ∷ []

-- a question that isn't parted, asked by the first client
abbrev pub in_one : List Note
in_one = take 2 stored_run

abbrev pub failed_in_one : List Case
failed_in_one =
    case in_one (
    -- its failure lets go
    step (ask_answered 1 (get (codes "a")) 1 reply.Fault)
    ∷ wrong_holds (c1 (Ask 1 (get (codes "a")) false) reply.Fault)
    ∷ step (ask_answered 1 (get (codes "a")) 1 (reply.Damaged 1 0))
    ∷ wrong_holds (c1 (Ask 1 (get (codes "a")) false) (reply.Damaged 1 0))
    ∷ step (ask_answered 1 (get (codes "a")) 1 reply.Memory)
    ∷ wrong_holds (c1 (Ask 1 (get (codes "a")) false) reply.Memory)
    -- it is told by the one who asked, with what was asked
    ∷ no_step (and_release (c2 (Ask 1 (get (codes "a")) false) reply.Fault))
    ∷ no_step (and_release (c2 (Ask 1 (get (codes "a")) false) (reply.Damaged 1 0)))
    ∷ no_step (and_release (c2 (Ask 1 (get (codes "a")) false) reply.Memory))
    ∷ no_step (and_release (c1 (Ask 1 (get (codes "b")) false) reply.Fault))
    ∷ no_step (and_release (c1 (Ask 1 (get (codes "a")) true) reply.Fault))
    -- it isn't a piece of work apart
    ∷ no_step (and_release (db (Work 1) reply.Fault))
    ∷ step (db (Work 1) reply.NoSuch)
    ∷ wrong_holds (and_release (db (Work 1) reply.NoSuch))
    ∷ step (c2 (Settle 1) reply.NotYet)
    ∷ [])
    -- a question that isn't taken for want of memory has no number and no hold
    ∷ case (take 1 stored_run) (
    step (c1 (Ask 0 (get (codes "a")) false) reply.Memory)
    ∷ wrong_holds (holding (c1 (Ask 0 (get (codes "a")) false) reply.Memory) (Hold 1 0 ∷ []))
    ∷ no_step (c1 (Ask 1 (get (codes "a")) false) reply.Memory)
    ∷ no_step (c1 (Ask 0 (get (codes "a")) false) reply.Fault)
    ∷ [])
    ∷ []

abbrev pub one : Reply
one = reply.Answered (Value (codes "1"))

abbrev pub answers_taken : List Case
answers_taken =
    -- any client may take an answer, which lets go
    case in_one (
    step (and_release (c1 (Ask 1 (get (codes "a")) false) one))
    ∷ wrong_holds (c1 (Ask 1 (get (codes "a")) false) one)
    ∷ step (and_release (c2 (Ask 1 (get (codes "a")) false) one))
    -- as the answer of what was asked
    ∷ no_step (and_release (c2 (Ask 1 (get (codes "b")) false) one))
    ∷ no_step (and_release (c1 (Ask 1 (get (codes "a")) true) one))
    ∷ no_step (and_release (c1 (Settle 1) one))
    ∷ [])
    ∷ case in_parts (
    step (and_release (c1 (Settle 1) one))
    ∷ wrong_holds (c1 (Settle 1) one)
    ∷ step (and_release (c2 (Settle 1) one))
    ∷ no_step (and_release (db (Settle 1) one))
    ∷ no_step (and_release (c1 (Ask 1 (get (codes "c")) true) one))
    ∷ [])
    ∷ []

-- a file-only snapshot of the version 1, and the version 2 is current
abbrev pub snapped : List Note
snapped =
    c1 (put (codes "b") (codes "1")) reply.Done
    ∷ flushed 1 1 (table_of_key 1 (codes "b") 1)
    ++ holding (c1 (Snap (codes "s1") (from_to (codes "a") (codes "m") ∷ [])) reply.FileOnly) (Hold 1 1 ∷ [])
    ∷ c1 (put (codes "b") (codes "2")) reply.Done
    ∷ flushed 2 2 (table_of_key 2 (codes "b") 2)

abbrev pub cursor_at : Note
cursor_at = c1 (Cursor (codes "k") (from_to (codes "a") (codes "c")) (Some (codes "s1"))) reply.CursorOn

abbrev pub cursor_now : Note
cursor_now = c1 (Cursor (codes "k") (from_to (codes "a") (codes "c")) None) reply.CursorOn

abbrev pub snap : List ℕ → Reply → Note
snap name r = c1 (Snap name (from_to (codes "a") (codes "m") ∷ [])) r

abbrev pub held_versions : List Case
held_versions =
    -- through a file-only snapshot its own version is held, and else the current one
    case snapped (
    step (ask_held 1 (get (codes "b")) false (Hold 2 2))
    ∷ wrong_holds (ask_held 1 (get (codes "b")) false (Hold 2 1))
    ∷ step (ask_held 1 (Scan (from_to (codes "a") (codes "c")) 10 (Some (codes "s1"))) false (Hold 2 1))
    ∷ wrong_holds (ask_held 1 (Scan (from_to (codes "a") (codes "c")) 10 (Some (codes "s1"))) false (Hold 2 2))
    ∷ step (ask_held 1 (RScan (from_to (codes "a") (codes "c")) 10 (Some (codes "s1"))) false (Hold 2 1))
    ∷ wrong_holds (ask_held 1 (RScan (from_to (codes "a") (codes "c")) 10 (Some (codes "s1"))) false (Hold 2 2))
    ∷ step (holding cursor_at (Hold 2 1 ∷ []))
    ∷ wrong_holds (holding cursor_at (Hold 2 2 ∷ []))
    ∷ step (holding cursor_now (Hold 2 2 ∷ []))
    ∷ wrong_holds (holding cursor_now (Hold 2 1 ∷ []))
    ∷ step (holding (snap (codes "s2") reply.FileOnly) (Hold 2 2 ∷ []))
    ∷ wrong_holds (holding (snap (codes "s2") reply.FileOnly) (Hold 2 1 ∷ []))
    ∷ [])
    -- a cursor holds on when its snapshot is gone, and a number that was let go is free
    ∷ case (snapped ++ holding cursor_at (Hold 2 1 ∷ []) ∷ let_go (Drop (codes "s1")) reply.Dropped 1 ∷ []) (
    step (ask_held 1 (Move (codes "k") First) false (Hold 1 1))
    ∷ wrong_holds (ask_held 1 (Move (codes "k") First) false (Hold 1 2))
    ∷ [])
    ∷ []

abbrev pub numbers_of_holds : List Case
numbers_of_holds =
    case snapped (
    -- any number that isn't that of an open hold
    step (ask_held 1 (get (codes "b")) false (Hold 7 2))
    ∷ wrong_holds (ask_held 1 (get (codes "b")) false (Hold 1 2))
    -- one hold
    ∷ wrong_holds (c1 (Ask 1 (get (codes "b")) false) (reply.Asked 1))
    ∷ wrong_holds (holding (c1 (Ask 1 (get (codes "b")) false) (reply.Asked 1)) (Hold 2 2 ∷ Hold 3 2 ∷ []))
    ∷ wrong_holds (holding (c1 (Ask 1 (get (codes "b")) false) (reply.Asked 1)) (Release 1 ∷ Hold 2 2 ∷ []))
    ∷ wrong_holds cursor_now
    -- any client may look at a snapshot, and drop it
    ∷ step (holding (c2 (Ask 1 (get_at (codes "b") (codes "s1")) false) (reply.Asked 1)) (Hold 2 1 ∷ []))
    ∷ step (and_release (c2 (Drop (codes "s1")) reply.Dropped))
    ∷ wrong_holds (c2 (Drop (codes "s1")) reply.Dropped)
    -- none where nothing is begun
    ∷ step (snap (codes "s1") reply.NameInUse)
    ∷ wrong_holds (holding (snap (codes "s1") reply.NameInUse) (Hold 2 2 ∷ []))
    ∷ wrong_holds (holding (snap (codes "s2") reply.Memory) (Hold 2 2 ∷ []))
    ∷ wrong_holds (and_release (c1 (Drop (codes "s2")) reply.NoSuch))
    ∷ [])
    -- a cursor lets go where it is shut, and not where it is busy
    ∷ case (take 7 cursor_over_excise) (
    step (and_release (c1 (Shut (codes "k")) reply.Shut))
    ∷ step (and_release (c2 (Shut (codes "k")) reply.Shut))
    ∷ wrong_holds (c1 (Shut (codes "k")) reply.Shut)
    ∷ [])
    ∷ case (take 8 cursor_over_excise) (
    step (c1 (Shut (codes "k")) (reply.Busy 1))
    ∷ wrong_holds (and_release (c1 (Shut (codes "k")) (reply.Busy 1)))
    ∷ [])
    ∷ []

-- two snapshots are pinned by the first group, and a third one holds the version 0
abbrev pub two_pinned : List Note
two_pinned =
    c1 (put (codes "b") (codes "1")) reply.Done
    ∷ snap (codes "s2") (reply.Pinned 1)
    ∷ snap (codes "s1") (reply.Pinned 1)
    ∷ holding (c1 (Snap (codes "s3") (from_to (codes "x") (codes "z") ∷ [])) reply.FileOnly) (Hold 9 0 ∷ [])
    ∷ db Seal (reply.Group 1)
    ∷ db FlushTake (reply.Job 1)
    ∷ []

abbrev pub turning_flush : List HoldNote → Note
turning_flush holds = holding (put_flush 1 (table_of_key 1 (codes "b") 1)) holds

-- a compaction whose outputs are none
abbrev pub nothing_left : Note
nothing_left = changing (db (Put 2) reply.Installed) (changes ((0, 1) ∷ []) [] [])

abbrev pub turning_snapshots : List Case
turning_snapshots =
    -- each that turns holds the version that the flush leads to, under a number of its own
    case two_pinned (
    step (turning_flush (Hold 7 1 ∷ Hold 3 1 ∷ []))
    ∷ wrong_holds (turning_flush (Hold 7 1 ∷ []))
    ∷ wrong_holds (turning_flush (Hold 7 1 ∷ Hold 3 1 ∷ Hold 4 1 ∷ []))
    ∷ wrong_holds (turning_flush (Hold 7 1 ∷ Hold 7 1 ∷ []))
    ∷ wrong_holds (turning_flush (Hold 7 1 ∷ Hold 9 1 ∷ []))
    ∷ wrong_holds (turning_flush (Hold 9 1 ∷ Hold 3 1 ∷ []))
    ∷ wrong_holds (turning_flush (Hold 7 1 ∷ Hold 3 0 ∷ []))
    ∷ [])
    -- the put of a compaction turns none
    ∷ case (take 5 cancelled_compaction ++ c1 (put (codes "b") (codes "3")) reply.Done ∷ snap (codes "s1") (reply.Pinned 2) ∷ db Seal (reply.Group 2) ∷ []) (
    step (holding nothing_left (Release 1 ∷ []))
    ∷ wrong_holds (holding nothing_left (Release 1 ∷ Hold 2 2 ∷ []))
    ∷ wrong_holds nothing_left
    ∷ [])
    -- in the order in which they were made
    ∷ case (two_pinned ++ turning_flush (Hold 7 1 ∷ Hold 3 1 ∷ []) ∷ []) (
    step (let_go (Drop (codes "s2")) reply.Dropped 7)
    ∷ wrong_holds (let_go (Drop (codes "s2")) reply.Dropped 3)
    ∷ step (let_go (Drop (codes "s1")) reply.Dropped 3)
    ∷ wrong_holds (let_go (Drop (codes "s1")) reply.Dropped 7)
    ∷ step (let_go (Drop (codes "s3")) reply.Dropped 9)
    ∷ [])
    ∷ []

-- a snapshot is pinned by the second group when the first one is flushed
abbrev pub pinned_by_second : List Note
pinned_by_second =
    c1 (put (codes "b") (codes "1")) reply.Done
    ∷ db Seal (reply.Group 1)
    ∷ c1 (put (codes "b") (codes "2")) reply.Done
    ∷ snap (codes "s1") (reply.Pinned 2)
    ∷ db FlushTake (reply.Job 1)
    ∷ []

abbrev pub pinned_still : List Note
pinned_still = pinned_by_second ++ put_flush 1 (table_of_key 1 (codes "b") 1) ∷ []

abbrev pub pinned_snapshots : List Case
pinned_snapshots =
    -- it doesn't turn
    case pinned_by_second (
    step (turning_flush []) ∷ wrong_holds (turning_flush (Hold 1 1 ∷ [])) ∷ [])
    -- through it the current version is held
    ∷ case pinned_still (
    step (ask_held 1 (get_at (codes "b") (codes "s1")) false (Hold 1 1))
    ∷ wrong_holds (ask_held 1 (get_at (codes "b") (codes "s1")) false (Hold 1 0))
    ∷ step (holding cursor_at (Hold 1 1 ∷ []))
    ∷ wrong_holds (holding cursor_at (Hold 1 0 ∷ []))
    ∷ [])
    -- dropped, it lets nothing go, also where a question or a cursor that looks at it holds a version
    ∷ case (pinned_still ++ ask_held 1 (get_at (codes "b") (codes "s1")) true (Hold 1 1) ∷ []) (
    step (c1 (Drop (codes "s1")) reply.Dropped) ∷ wrong_holds (let_go (Drop (codes "s1")) reply.Dropped 1) ∷ [])
    ∷ case (pinned_still ++ holding cursor_at (Hold 1 1 ∷ []) ∷ []) (
    step (c1 (Drop (codes "s1")) reply.Dropped) ∷ wrong_holds (let_go (Drop (codes "s1")) reply.Dropped 1) ∷ [])
    ∷ []

abbrev pub excised_snapshots : List Case
excised_snapshots =
    -- one that was excised doesn't turn
    case (take 9 snapshot_refused ++ db Seal (reply.Group 2) ∷ db FlushTake (reply.Job 2) ∷ []) (
    step (put_flush 2 (table_of_key 3 (codes "q") 3))
    ∷ wrong_holds (holding (put_flush 2 (table_of_key 3 (codes "q") 3)) (Hold 1 3 ∷ []))
    ∷ [])
    -- and has nothing to let go
    ∷ case (take 9 snapshot_refused ++ holding cursor_now (Hold 1 2 ∷ []) ∷ []) (
    step (c1 (Drop (codes "s1")) reply.Dropped) ∷ wrong_holds (let_go (Drop (codes "s1")) reply.Dropped 1) ∷ [])
    ∷ []

-- the table of a load is being written
abbrev pub open_l1 : Reply → Note
open_l1 r = c1 (LoadOpen (codes "l1") (only_a ∷ []) (Some (from_to (codes "c") (codes "e")))) r

abbrev pub only_a_edit : Changes
only_a_edit = changes [] (1 ∷ []) ((6, loaded_table 1 (from_upto (codes "a") (codes "a")) 1 85) ∷ [])

abbrev pub only_a_comes : Note
only_a_comes = install (codes "l1") only_a_edit

abbrev pub openings : List Case
openings =
    case (open_l1 reply.Opening ∷ []) (
    step (open_l1 reply.Opened)
    ∷ wrong_holds (holding (open_l1 reply.Opened) (Hold 1 0 ∷ []))
    -- with what was to be opened, by the same client
    ∷ no_step (c1 (LoadOpen (codes "l1") (only_b ∷ []) (Some (from_to (codes "c") (codes "e")))) reply.Opened)
    ∷ no_step (c1 (LoadOpen (codes "l1") (only_a ∷ []) (Some (from_to (codes "c") (codes "f")))) reply.Opened)
    ∷ no_step (c1 (LoadOpen (codes "l1") (only_a ∷ []) None) reply.Opened)
    ∷ no_step (c2 (LoadOpen (codes "l1") (only_a ∷ []) (Some (from_to (codes "c") (codes "e")))) reply.Opened)
    -- the same where it fails
    ∷ step (trying (open_l1 reply.Fault) (1 ∷ []))
    ∷ step (open_l1 reply.Memory)
    ∷ no_step (c1 (LoadOpen (codes "l1") (only_b ∷ []) (Some (from_to (codes "c") (codes "e")))) reply.Fault)
    ∷ no_step (c1 (LoadOpen (codes "l1") (only_a ∷ []) (Some (from_to (codes "c") (codes "f")))) reply.Memory)
    ∷ no_step (c2 (LoadOpen (codes "l1") (only_a ∷ []) (Some (from_to (codes "c") (codes "e")))) reply.Fault)
    -- another load under the name is refused, whatever it has
    ∷ step (c2 (LoadOpen (codes "l1") (only_b ∷ []) None) reply.NameInUse)
    ∷ step (open_l1 reply.NameInUse)
    ∷ [])
    ∷ []

abbrev pub opening_or_open : List Case
opening_or_open =
    -- it isn't installed while it is being opened
    case (open_l1 reply.Opening ∷ []) (
    step (c1 (Install (codes "l1")) reply.NotYet)
    ∷ no_step only_a_comes
    ∷ no_step (c1 (Install (codes "l1")) reply.Memory)
    ∷ no_step (c1 (Install (codes "l1")) reply.NoSuch)
    -- its own client may wait for it
    ∷ step (c1 (LoadKept (codes "l1")) reply.NotYet)
    ∷ no_step (c1 (LoadKept (codes "l1")) reply.NoSuch)
    ∷ step (c2 (LoadKept (codes "l1")) reply.NoSuch)
    ∷ no_step (c2 (LoadKept (codes "l1")) reply.NotYet)
    ∷ [])
    -- once it is open any client installs it, and its opening has ended
    ∷ case (open_l1 reply.Opening ∷ open_l1 reply.Opened ∷ []) (
    step only_a_comes
    ∷ step (changing (c2 (Install (codes "l1")) reply.Installed) only_a_edit)
    ∷ no_step (c1 (Install (codes "l1")) reply.NotYet)
    ∷ no_step (open_l1 reply.Opened)
    ∷ no_step (open_l1 reply.Fault)
    ∷ step (c1 (LoadKept (codes "l1")) reply.NoSuch)
    ∷ no_step (c1 (LoadKept (codes "l1")) reply.NotYet)
    ∷ [])
    -- after a failure the name is free
    ∷ case (open_l1 reply.Opening ∷ open_l1 reply.Fault ∷ []) (
    step (open_l1 reply.Opening)
    ∷ no_step (open_l1 reply.NameInUse)
    ∷ step (c1 (Install (codes "l1")) reply.NoSuch)
    ∷ [])
    -- and after the install it isn't
    ∷ case (open_l1 reply.Opening ∷ open_l1 reply.Opened ∷ only_a_comes ∷ []) (
    step (open_l1 reply.NameInUse)
    ∷ no_step (open_l1 reply.Opening)
    ∷ step (c1 (Install (codes "l1")) reply.NoSuch)
    ∷ [])
    ∷ []

-- the owner's acts aren't a client's, and the other way round
abbrev pub makers : List Case
makers =
    case [] (
    step (db Seal reply.Nothing)
    ∷ no_step (c1 Seal reply.Nothing)
    ∷ no_step (c1 FlushTake reply.Nothing)
    ∷ no_step (c1 compact reply.Nothing)
    ∷ no_step (c1 (Put 1) reply.NoSuch)
    ∷ no_step (c1 (Build 1) reply.NoSuch)
    ∷ no_step (c1 (Work 1) reply.NoSuch)
    ∷ no_step (c1 Reap reply.Nothing)
    ∷ no_step (c1 (Show show.Levels) (reply.Levels no_tables))
    ∷ step (c1 (Settle 1) reply.NoSuch)
    ∷ no_step (db (Settle 1) reply.NoSuch)
    ∷ no_step (db (LoadOpen (codes "l1") [] None) reply.Nothing)
    ∷ no_step (db (LoadKept (codes "l1")) reply.NoSuch)
    ∷ no_step (db (Install (codes "l1")) reply.NoSuch)
    ∷ no_step (holding (db (Snap (codes "s1") (from_to (codes "a") (codes "m") ∷ [])) reply.FileOnly) (Hold 1 0 ∷ []))
    ∷ no_step (db (Drop (codes "s1")) reply.NoSuch)
    ∷ no_step (db (Status (codes "s1") status_form.Status) reply.NoSuch)
    ∷ no_step (holding (db (Cursor (codes "k") (from_to (codes "a") (codes "z")) None) reply.CursorOn) (Hold 1 0 ∷ []))
    ∷ no_step (db (Shut (codes "k")) reply.NoSuch)
    ∷ no_step (holding (db (Ask 1 (get (codes "a")) false) (reply.Asked 1)) (Hold 1 0 ∷ []))
    -- clients are numbered from 1 to 16
    ∷ step (note (Client 16) (Settle 1) reply.NoSuch)
    ∷ no_step (note (Client 17) (Settle 1) reply.NoSuch)
    ∷ no_step (note (Client 0) (Settle 1) reply.NoSuch)
    ∷ [])
    ∷ case (take 6 whole_table_reaped ++ db Reap (reply.Took 1) ∷ []) (
    step (db (Remove 1) reply.Stuck) ∷ no_step (c1 (Remove 1) reply.Stuck) ∷ [])
    ∷ []
