-- Which of two replies comes first where both would stand.
use Rattle.std.specs.Prelude.{ℕ, map, ◌-◌, ◌^◌, true, false, List, [], ◌∷◌, ◌++◌, None, Some, codes}
use Rattle.xdb_edit.specs.Changes.{changes}
use Rattle.xdb_plain.specs.Tables.{TableOps}
use Rattle.xdb_plain.specs.declared.act.Act.TheVariants.{Seal, FlushTake, CompactTake, Put, Build, Work, Install, Snap, Cursor, Shut, Ask, Settle, Show}
use Rattle.xdb_plain.specs.declared.act.ShowWhat.TheVariants as show
use Rattle.xdb_plain.specs.declared.act.Which.TheVariants.{Auto}
use Rattle.xdb_plain.specs.declared.note.HoldNote.TheVariants.{Hold, Release}
use Rattle.xdb_plain.specs.declared.note.Note.{Note}
use Rattle.xdb_plain.specs.declared.question.Question.TheVariants.{Move}
use Rattle.xdb_plain.specs.declared.question.Step.TheVariants.{First}
use Rattle.xdb_plain.specs.declared.reply.Reply.{Reply}
use Rattle.xdb_plain.specs.declared.reply.Reply.TheVariants as reply
use Rattle.xdb_rows.specs.Judged.{Case, Next, case, case_from, step, no_step}
use Rattle.xdb_rows.specs.Notes.{c1, c2, db, holding, from_to, from_upto, file_table, put, get, get_at, scan, excise, install, flushed, compact_l0, let_go, ask_held, ask_refused}
use Rattle.xdb_rows.specs.Tables.Small.{a_to_c, a_to_m, c_to_e, m_to_t, a_to_z, stored, table_with, opens, opens_span, many_loads, many_cursors, many_questions, many_snaps}

-- the span from a to m is fenced
abbrev pub fenced_a_to_m : Note
fenced_a_to_m = excise (codes "l1") a_to_m

-- commits, flushes and compactions
abbrev pub orders_of_work : List Case
orders_of_work =
    -- a fence before the want of numbers, and both before the want of memory
    case_from (2 ^ 56) 1 (fenced_a_to_m ∷ []) (
    step (c1 (put (codes "c") (codes "1")) (reply.Fenced (codes "l1")))
    ∷ no_step (c1 (put (codes "c") (codes "1")) reply.Spent)
    ∷ no_step (c1 (put (codes "c") (codes "1")) reply.Memory)
    ∷ step (c1 (put (codes "x") (codes "1")) reply.Spent)
    ∷ no_step (c1 (put (codes "x") (codes "1")) reply.Memory)
    ∷ [])
    -- memory may be wanting for a commit that may be done
    ∷ case [] (step (c1 (put (codes "c") (codes "1")) reply.Memory) ∷ [])
    -- nothing to flush before the want of file numbers
    ∷ case_from 1 (2 ^ 56) [] (
    step (db FlushTake reply.Nothing)
    ∷ no_step (db FlushTake reply.Spent)
    ∷ no_step (db FlushTake reply.Memory)
    ∷ [])
    -- a running flush before the want of file numbers
    ∷ case_from 1 (2 ^ 56 - 1) (
    stored (codes "a" ∷ []) ∷ db Seal (reply.Group 1) ∷ db FlushTake (reply.Job 1)
    ∷ stored (codes "b" ∷ []) ∷ db Seal (reply.Group 2) ∷ []) (
    step (db FlushTake reply.Nothing) ∷ no_step (db FlushTake reply.Spent) ∷ [])
    -- file numbers before memory
    ∷ case_from 1 (2 ^ 56) (stored (codes "a" ∷ []) ∷ db Seal (reply.Group 1) ∷ []) (
    step (db FlushTake reply.Spent) ∷ no_step (db FlushTake reply.Memory) ∷ [])
    -- nothing to compact before the want of file numbers; memory may be wanting at any place
    ∷ case_from 1 (2 ^ 56) [] (
    step (db (CompactTake Auto) reply.Nothing)
    ∷ no_step (db (CompactTake Auto) reply.Spent)
    ∷ step (db (CompactTake Auto) reply.Memory)
    ∷ [])
    -- what isn't there isn't put
    ∷ case [] (step (db (Put 1) reply.NoSuch) ∷ no_step (db (Put 1) reply.Memory) ∷ [])
    ∷ []

abbrev pub a_and_d : List (List ℕ)
a_and_d = codes "a" ∷ codes "d" ∷ []

-- a table of a and d is compacted, and l1 cancels that
abbrev pub cancelled : List Note
cancelled =
    stored a_and_d
    ∷ flushed 1 1 (file_table 1 (from_upto (codes "a") (codes "d")) 1 2 90)
    ++ holding (db (compact_l0 a_to_z) (reply.Job 2)) (Hold 1 1 ∷ [])
    ∷ excise (codes "l1") (from_to (codes "A") (codes "z"))
    ∷ install (codes "l1") (changes ((0, 1) ∷ []) [] [])
    ∷ []

-- the end of a compaction that was cancelled
abbrev pub orders_of_puts : List Case
orders_of_puts =
    case cancelled (
    step (holding (db (Put 2) (reply.Cancelled (codes "l1"))) (Release 1 ∷ []))
    ∷ step (db (Put 2) reply.NotYet)
    ∷ no_step (db (Put 2) reply.Memory)
    ∷ [])
    ∷ []

-- tables alone, and tables that meet
abbrev pub only_x : List TableOps
only_x = table_with (codes "t") (codes "x" ∷ []) ∷ []

abbrev pub both_x : List TableOps
both_x = table_with (codes "t") (codes "x" ∷ []) ∷ table_with (codes "u") (codes "x" ∷ []) ∷ []

abbrev pub only_t : List TableOps
only_t = table_with (codes "t") a_and_d ∷ []

abbrev pub t_over_u : List TableOps
t_over_u = table_with (codes "t") a_and_d ∷ table_with (codes "u") (codes "b" ∷ []) ∷ []

-- openings of loads
abbrev pub orders_of_openings : List Case
orders_of_openings =
    -- a name in use before all others
    case_from (2 ^ 56) 1 (fenced_a_to_m ∷ []) (
    step (c1 (opens (codes "l1") [] None) reply.NameInUse)
    ∷ no_step (c1 (opens (codes "l1") [] None) reply.Nothing)
    ∷ no_step (c1 (opens_span (codes "l1") a_to_m) (reply.Fenced (codes "l1")))
    ∷ no_step (c1 (opens_span (codes "l1") a_to_m) reply.Memory)
    ∷ no_step (c1 (opens (codes "l1") only_x None) reply.Spent)
    ∷ no_step (c1 (opens (codes "l1") both_x None) (reply.Overlap (codes "t") (codes "u")))
    ∷ [])
    -- nothing to load before the want of memory
    ∷ case [] (
    step (c1 (opens (codes "l1") [] None) reply.Nothing)
    ∷ no_step (c1 (opens (codes "l1") [] None) reply.Memory) ∷ [])
    -- tables that meet before a fence, and a fence before the want of numbers
    ∷ case_from (2 ^ 56) 1 (fenced_a_to_m ∷ []) (
    step (c1 (opens (codes "l2") t_over_u None) (reply.Overlap (codes "t") (codes "u")))
    ∷ no_step (c1 (opens (codes "l2") t_over_u None) (reply.Fenced (codes "l1")))
    ∷ no_step (c1 (opens (codes "l2") both_x None) reply.Spent)
    ∷ step (c1 (opens (codes "l2") only_t None) (reply.Fenced (codes "l1")))
    ∷ no_step (c1 (opens (codes "l2") only_t None) reply.Spent)
    ∷ step (c1 (opens (codes "l2") only_x None) reply.Spent)
    ∷ [])
    -- memory may be wanting at any of these places
    ∷ case_from (2 ^ 56) 1 (fenced_a_to_m ∷ []) (
    step (c1 (opens (codes "l2") t_over_u None) reply.Memory)
    ∷ step (c1 (opens (codes "l2") only_t None) reply.Memory)
    ∷ step (c1 (opens (codes "l2") only_x None) reply.Memory)
    ∷ step (c1 (opens_span (codes "l2") m_to_t) reply.Memory)
    ∷ [])
    ∷ []

-- openings with 16 open loads
abbrev pub orders_of_openings_at_16 : List Case
orders_of_openings_at_16 =
    case_from (2 ^ 56) 1 (many_loads 16) (
    -- a name in use, and nothing to load, before too many
    step (c1 (opens_span (codes "ab") (from_to (codes "x") (codes "y"))) reply.NameInUse)
    ∷ no_step (c1 (opens_span (codes "ab") (from_to (codes "x") (codes "y"))) reply.TooMany)
    ∷ step (c1 (opens (codes "l") [] None) reply.Nothing)
    ∷ no_step (c1 (opens (codes "l") [] None) reply.TooMany)
    -- too many before tables that meet, a fence, the want of numbers, and the want of memory
    ∷ step (c1 (opens (codes "l") both_x None) reply.TooMany)
    ∷ no_step (c1 (opens (codes "l") both_x None) (reply.Overlap (codes "t") (codes "u")))
    ∷ no_step (c1 (opens_span (codes "l") a_to_c) (reply.Fenced (codes "ab")))
    ∷ no_step (c1 (opens (codes "l") only_x None) reply.Spent)
    ∷ no_step (c1 (opens_span (codes "l") (from_to (codes "x") (codes "y"))) reply.Memory)
    ∷ [])
    ∷ []

-- installs
abbrev pub orders_of_installs : List Case
orders_of_installs =
    -- there is no such load, though there is nothing to wait for
    case (stored (codes "a" ∷ []) ∷ []) (
    step (c1 (Install (codes "l1")) reply.NoSuch)
    ∷ no_step (install (codes "l1") (changes [] [] []))
    ∷ no_step (c1 (Install (codes "l1")) reply.Memory)
    ∷ [])
    -- an opening that hasn't ended before a group to wait for
    ∷ case (stored a_and_d ∷ c1 (opens (codes "l1") only_t None) reply.Opening ∷ []) (
    step (c1 (Install (codes "l1")) reply.NotYet)
    ∷ no_step (c1 (Install (codes "l1")) (reply.Waits 1))
    ∷ no_step (c1 (Install (codes "l1")) reply.Memory)
    ∷ [])
    -- a group to wait for before what the work finds
    ∷ case (stored a_and_d ∷ fenced_a_to_m ∷ []) (
    step (c1 (Install (codes "l1")) (reply.Waits 1))
    ∷ no_step (c1 (Install (codes "l1")) reply.Memory)
    ∷ no_step (c1 (Install (codes "l1")) reply.Fault)
    ∷ no_step (c1 (Install (codes "l1")) (reply.Damaged 1 0))
    ∷ no_step (c1 (Install (codes "l1")) reply.NotYet)
    ∷ [])
    -- of what the work finds each may come, but no want of numbers where there are enough
    ∷ case (fenced_a_to_m ∷ []) (
    step (c1 (Install (codes "l1")) reply.Memory)
    ∷ step (c1 (Install (codes "l1")) reply.Fault)
    ∷ step (c1 (Install (codes "l1")) (reply.Damaged 1 0))
    ∷ step (install (codes "l1") (changes [] [] []))
    ∷ no_step (c1 (Install (codes "l1")) reply.Spent)
    ∷ no_step (c1 (Install (codes "l1")) reply.NotYet)
    ∷ [])
    ∷ []

-- snapshots
abbrev pub orders_of_snapshots : List Case
orders_of_snapshots =
    case (holding (c1 (Snap (codes "s1") (a_to_m ∷ [])) reply.FileOnly) (Hold 1 0 ∷ []) ∷ []) (
    -- a name in use before ranges that don't rise
    step (c1 (Snap (codes "s1") (c_to_e ∷ a_to_c ∷ [])) reply.NameInUse)
    ∷ no_step (c1 (Snap (codes "s1") (c_to_e ∷ a_to_c ∷ [])) reply.BadRanges)
    ∷ no_step (c1 (Snap (codes "s1") (a_to_m ∷ [])) reply.Memory)
    -- ranges that don't rise before the want of memory
    ∷ step (c1 (Snap (codes "s2") (c_to_e ∷ a_to_c ∷ [])) reply.BadRanges)
    ∷ no_step (c1 (Snap (codes "s2") (c_to_e ∷ a_to_c ∷ [])) reply.Memory)
    ∷ step (c1 (Snap (codes "s2") (a_to_m ∷ [])) reply.Memory)
    ∷ [])
    ∷ []

abbrev pub orders_of_snapshots_at_64 : List Case
orders_of_snapshots_at_64 =
    case (many_snaps 64) (
    -- a name in use, and ranges that don't rise, before too many, and that before the want of memory
    step (c1 (Snap (codes "ab") (a_to_m ∷ [])) reply.NameInUse)
    ∷ no_step (c1 (Snap (codes "ab") (a_to_m ∷ [])) reply.TooMany)
    ∷ step (c1 (Snap (codes "s") (c_to_e ∷ a_to_c ∷ [])) reply.BadRanges)
    ∷ no_step (c1 (Snap (codes "s") (c_to_e ∷ a_to_c ∷ [])) reply.TooMany)
    ∷ step (c1 (Snap (codes "s") (a_to_m ∷ [])) reply.TooMany)
    ∷ no_step (c1 (Snap (codes "s") (a_to_m ∷ [])) reply.Memory)
    ∷ [])
    ∷ []

-- l1 excises a snapshot of a to m
abbrev pub excised_snap : List Note
excised_snap =
    stored (codes "b" ∷ [])
    ∷ c1 (Snap (codes "s1") (a_to_m ∷ [])) (reply.Pinned 1)
    ∷ excise (codes "l1") (from_to (codes "c") (codes "d"))
    ∷ install (codes "l1") (changes [] [] [])
    ∷ []

-- cursors
abbrev pub orders_of_cursors : List Case
orders_of_cursors =
    case (holding (c1 (Cursor (codes "k") a_to_m None) reply.CursorOn) (Hold 1 0 ∷ []) ∷ excised_snap) (
    -- a name in use before what the snapshot says
    step (c1 (Cursor (codes "k") a_to_m (Some (codes "s9"))) reply.NameInUse)
    ∷ no_step (c1 (Cursor (codes "k") a_to_m (Some (codes "s9"))) reply.NoSuch)
    ∷ no_step (c1 (Cursor (codes "k") a_to_z (Some (codes "s1"))) reply.Outside)
    ∷ no_step (c1 (Cursor (codes "k") a_to_m (Some (codes "s1"))) (reply.Excised (codes "l1")))
    ∷ no_step (c1 (Cursor (codes "k") a_to_m None) reply.Memory)
    -- outside before excised, and both before the want of memory
    ∷ step (c1 (Cursor (codes "j") a_to_z (Some (codes "s1"))) reply.Outside)
    ∷ no_step (c1 (Cursor (codes "j") a_to_z (Some (codes "s1"))) (reply.Excised (codes "l1")))
    ∷ no_step (c1 (Cursor (codes "j") a_to_z (Some (codes "s1"))) reply.Memory)
    ∷ step (c1 (Cursor (codes "j") a_to_m (Some (codes "s1"))) (reply.Excised (codes "l1")))
    ∷ no_step (c1 (Cursor (codes "j") a_to_m (Some (codes "s1"))) reply.Outside)
    ∷ no_step (c1 (Cursor (codes "j") a_to_m (Some (codes "s1"))) reply.Memory)
    ∷ no_step (c1 (Cursor (codes "j") a_to_m (Some (codes "s9"))) reply.Memory)
    ∷ step (c1 (Cursor (codes "j") a_to_m None) reply.Memory)
    ∷ [])
    ∷ []

abbrev pub orders_of_cursors_at_64 : List Case
orders_of_cursors_at_64 =
    case (many_cursors 64 ++ excised_snap) (
    -- a name in use, and what the snapshot says, before too many, and that before the want of memory
    step (c1 (Cursor (codes "ab") a_to_m None) reply.NameInUse)
    ∷ no_step (c1 (Cursor (codes "ab") a_to_m None) reply.TooMany)
    ∷ step (c1 (Cursor (codes "j") a_to_m (Some (codes "s9"))) reply.NoSuch)
    ∷ no_step (c1 (Cursor (codes "j") a_to_m (Some (codes "s9"))) reply.TooMany)
    ∷ step (c1 (Cursor (codes "j") a_to_z (Some (codes "s1"))) reply.Outside)
    ∷ no_step (c1 (Cursor (codes "j") a_to_z (Some (codes "s1"))) reply.TooMany)
    ∷ step (c1 (Cursor (codes "j") a_to_m (Some (codes "s1"))) (reply.Excised (codes "l1")))
    ∷ no_step (c1 (Cursor (codes "j") a_to_m (Some (codes "s1"))) reply.TooMany)
    ∷ step (c1 (Cursor (codes "j") a_to_m None) reply.TooMany)
    ∷ no_step (c1 (Cursor (codes "j") a_to_m None) reply.Memory)
    ∷ [])
    ∷ []

-- questions, and a cursor that is shut
abbrev pub orders_of_questions : List Case
orders_of_questions =
    case excised_snap (
    -- outside before excised, and both before the want of memory
    step (ask_refused (get_at (codes "x") (codes "s1")) reply.Outside)
    ∷ no_step (ask_refused (get_at (codes "x") (codes "s1")) (reply.Excised (codes "l1")))
    ∷ no_step (ask_refused (get_at (codes "x") (codes "s1")) reply.Memory)
    ∷ step (ask_refused (get_at (codes "b") (codes "s1")) (reply.Excised (codes "l1")))
    ∷ no_step (ask_refused (get_at (codes "b") (codes "s1")) reply.Memory)
    ∷ no_step (ask_refused (get_at (codes "b") (codes "s9")) reply.Memory)
    ∷ step (ask_refused (scan a_to_m) reply.Memory)
    ∷ [])
    -- busy before the want of memory, before shut, and before a new question; and no such cursor before busy
    ∷ case (
    holding (c1 (Cursor (codes "k") a_to_m None) reply.CursorOn) (Hold 1 0 ∷ [])
    ∷ ask_held 1 (Move (codes "k") First) true (Hold 2 0) ∷ []) (
    step (c1 (Shut (codes "k")) (reply.Busy 1))
    ∷ no_step (let_go (Shut (codes "k")) reply.Shut 1)
    ∷ step (ask_refused (Move (codes "k") First) (reply.Busy 1))
    ∷ no_step (ask_refused (Move (codes "k") First) reply.Memory)
    ∷ no_step (ask_held 2 (Move (codes "k") First) true (Hold 3 0))
    ∷ step (c1 (Shut (codes "j")) reply.NoSuch)
    ∷ no_step (c1 (Shut (codes "j")) (reply.Busy 1))
    ∷ step (ask_refused (Move (codes "j") First) reply.NoSuch)
    ∷ no_step (ask_refused (Move (codes "j") First) (reply.Busy 1))
    -- there is no answer yet, though it may come; and none to what isn't asked
    ∷ step (c1 (Settle 1) reply.NotYet)
    ∷ no_step (c1 (Settle 1) reply.NoSuch)
    ∷ step (c1 (Settle 2) reply.NoSuch)
    ∷ no_step (c1 (Settle 2) reply.NotYet)
    ∷ [])
    ∷ []

abbrev pub orders_of_questions_at_64 : List Case
orders_of_questions_at_64 =
    case (many_questions 63 ++ holding (c1 (Cursor (codes "k") a_to_m None) reply.CursorOn) (Hold 64 0 ∷ [])
    ∷ ask_held 64 (Move (codes "k") First) true (Hold 65 0) ∷ excised_snap) (
    -- what the snapshot or the cursor says before too many, and that before the want of memory
    step (ask_refused (get_at (codes "b") (codes "s9")) reply.NoSuch)
    ∷ no_step (ask_refused (get_at (codes "b") (codes "s9")) reply.TooMany)
    ∷ step (ask_refused (get_at (codes "x") (codes "s1")) reply.Outside)
    ∷ no_step (ask_refused (get_at (codes "x") (codes "s1")) reply.TooMany)
    ∷ step (ask_refused (get_at (codes "b") (codes "s1")) (reply.Excised (codes "l1")))
    ∷ no_step (ask_refused (get_at (codes "b") (codes "s1")) reply.TooMany)
    ∷ step (ask_refused (Move (codes "k") First) (reply.Busy 64))
    ∷ no_step (ask_refused (Move (codes "k") First) reply.TooMany)
    ∷ step (ask_refused (scan a_to_m) reply.TooMany)
    ∷ no_step (ask_refused (scan a_to_m) reply.Memory)
    ∷ [])
    ∷ []

-- a cursor is busy with its own question, and with no other
abbrev pub busy_with_moves : List Case
busy_with_moves =
    case (
    holding (c1 (Cursor (codes "k") a_to_m None) reply.CursorOn) (Hold 1 0 ∷ [])
    ∷ holding (c1 (Cursor (codes "j") a_to_m None) reply.CursorOn) (Hold 2 0 ∷ [])
    ∷ ask_held 1 (get (codes "a")) true (Hold 3 0)
    ∷ ask_held 2 (Move (codes "k") First) true (Hold 4 0) ∷ []) (
    step (c1 (Shut (codes "k")) (reply.Busy 2))
    ∷ no_step (c1 (Shut (codes "k")) (reply.Busy 1))
    ∷ step (let_go (Shut (codes "j")) reply.Shut 2)
    ∷ no_step (c1 (Shut (codes "j")) (reply.Busy 2))
    ∷ no_step (c1 (Shut (codes "j")) (reply.Busy 1))
    ∷ step (ask_held 3 (Move (codes "j") First) true (Hold 5 0))
    ∷ no_step (ask_refused (Move (codes "j") First) (reply.Busy 2))
    ∷ no_step (ask_refused (get (codes "a")) (reply.Busy 1))
    -- other clients find it busy as well
    ∷ step (c2 (Shut (codes "k")) (reply.Busy 2))
    ∷ no_step (holding (c2 (Shut (codes "k")) reply.Shut) (Release 1 ∷ []))
    ∷ [])
    -- until the question ends
    ∷ case (
    holding (c1 (Cursor (codes "k") a_to_m None) reply.CursorOn) (Hold 1 0 ∷ [])
    ∷ ask_held 1 (Move (codes "k") First) true (Hold 2 0)
    ∷ holding (db (Work 1) reply.Fault) (Release 2 ∷ []) ∷ []) (
    step (let_go (Shut (codes "k")) reply.Shut 1) ∷ no_step (c1 (Shut (codes "k")) (reply.Busy 1)) ∷ [])
    ∷ []

-- the same note with another reply, and these holds let go
abbrev pub failing : Note → Reply → List ℕ → Note
failing n r holds = record n { reply = r; holds = map Release holds }

-- it may fail in each way, and lets these holds go, or in none
abbrev pub fails_with : Note → List ℕ → List Next
fails_with n holds =
    step (failing n reply.Fault holds)
    ∷ step (failing n (reply.Damaged 1 0) holds)
    ∷ step (failing n reply.Memory holds)
    ∷ []

abbrev pub fails_not : Note → List Next
fails_not n =
    no_step (failing n reply.Fault [])
    ∷ no_step (failing n (reply.Damaged 1 0) [])
    ∷ no_step (failing n reply.Memory [])
    ∷ []

-- what work that is under way may come to
abbrev pub failures_of_work : List Case
failures_of_work =
    -- there is none
    case [] (
    step (db (Build 1) reply.NoSuch) ∷ step (db (Work 1) reply.NoSuch)
    ∷ (fails_not (db (Build 1) reply.NoSuch) ++ fails_not (db (Work 1) reply.NoSuch)))
    -- a flush, which holds nothing
    ∷ case (stored (codes "a" ∷ []) ∷ db Seal (reply.Group 1) ∷ db FlushTake (reply.Job 1) ∷ []) (
    step (db (Build 1) reply.NoSuch)
    ∷ step (db (Put 1) reply.NotYet)
    ∷ step (db (Put 1) reply.Memory)
    ∷ no_step (db (Put 1) reply.Fault)
    ∷ no_step (db (Build 1) reply.NotYet)
    ∷ (fails_with (db (Build 1) reply.NoSuch) [] ++ fails_not (db (Build 2) reply.NoSuch)))
    -- a question in parts
    ∷ case (ask_held 1 (get (codes "a")) true (Hold 1 0) ∷ []) (
    step (db (Work 1) reply.NoSuch)
    ∷ step (c1 (Settle 1) reply.NotYet)
    ∷ no_step (c1 (Settle 1) reply.Memory)
    ∷ no_step (c1 (Ask 1 (get (codes "a")) true) reply.NoSuch)
    ∷ (fails_with (db (Work 1) reply.NoSuch) (1 ∷ []) ++ fails_not (db (Work 2) reply.NoSuch)))
    ∷ case (ask_held 1 (get (codes "a")) true (Hold 1 0) ∷ []) (
    no_step (holding (c1 (Ask 1 (get (codes "a")) true) reply.Fault) (Release 1 ∷ []))
    ∷ no_step (holding (c1 (Ask 1 (get (codes "a")) true) reply.Memory) (Release 1 ∷ []))
    ∷ [])
    -- one that isn't
    ∷ case (ask_held 1 (get (codes "a")) false (Hold 1 0) ∷ []) (
    step (db (Work 1) reply.NoSuch)
    ∷ no_step (holding (db (Work 1) reply.Fault) (Release 1 ∷ []))
    ∷ no_step (holding (db (Work 1) reply.Memory) (Release 1 ∷ []))
    ∷ step (c1 (Settle 1) reply.NotYet)
    ∷ fails_with (c1 (Ask 1 (get (codes "a")) false) reply.NoSuch) (1 ∷ []))
    -- the opening of a load
    ∷ case (c1 (opens (codes "l1") only_t None) reply.Opening ∷ []) (
    step (c1 (opens (codes "l1") only_t None) reply.Opened)
    ∷ step (c1 (opens (codes "l1") only_t None) reply.Fault)
    ∷ step (c1 (opens (codes "l1") only_t None) reply.Memory)
    ∷ step (c1 (opens (codes "l1") only_t None) reply.NameInUse)
    ∷ no_step (c1 (opens (codes "l1") only_t None) (reply.Damaged 1 0))
    ∷ no_step (c1 (opens (codes "l1") only_t None) reply.NotYet)
    ∷ [])
    -- what is shown may want memory
    ∷ case [] (step (db (Show show.Levels) reply.Memory) ∷ no_step (db (Show show.Levels) reply.Nothing) ∷ [])
    ∷ []
