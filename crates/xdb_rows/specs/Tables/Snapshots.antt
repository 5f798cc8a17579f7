-- What pins a snapshot, what turns it file-only, and what excises it.
use Rattle.std.specs.Prelude.{ℕ, true, List, [], ◌∷◌, ◌++◌, None, Some, codes}
use Rattle.xdb_key.specs.Bounds.{Bounds}
use Rattle.xdb_key.specs.declared.state.SnapState.{SnapState}
use Rattle.xdb_key.specs.declared.state.SnapState.TheVariants as state
use Rattle.xdb_edit.specs.Changes.{changes}
use Rattle.xdb_plain.specs.declared.act.Act.{Act}
use Rattle.xdb_plain.specs.declared.act.Act.TheVariants.{Seal, FlushTake, Put, Build, Install, Snap, Drop, Status, Cursor, Show}
use Rattle.xdb_plain.specs.declared.act.ShowWhat.TheVariants as show
use Rattle.xdb_plain.specs.declared.act.StatusForm.TheVariants as status_form
use Rattle.xdb_plain.specs.declared.note.HoldNote.TheVariants.{Hold, Release}
use Rattle.xdb_plain.specs.declared.note.Note.{Note}
use Rattle.xdb_plain.specs.declared.question.Question.{Question}
use Rattle.xdb_plain.specs.declared.question.Question.TheVariants.{Scan, RScan}
use Rattle.xdb_plain.specs.declared.reply.Reply.{Reply}
use Rattle.xdb_plain.specs.declared.reply.Reply.TheVariants as reply
use Rattle.xdb_rows.specs.Judged.{Case, case, step, no_step, wrong_holds}
use Rattle.xdb_rows.specs.Notes.{c1, c2, db, holding, changing, from_to, from_upto, table_of_key, delspan, get_at, put_flush, flushed, excise, install, load, compact_l0, let_go, ask_held, ask_refused}
use Rattle.xdb_rows.specs.Tables.Small.{a_to_c, a_to_m, c_to_e, m_to_t, a_to_z, stored, table_with, loaded_key}

abbrev pub snap : List ℕ → List Bounds → Act
snap name ranges = Snap name ranges

abbrev pub snap_s1 : Act
snap_s1 = Snap (codes "s1") (a_to_m ∷ [])

-- the snapshots as they are shown
abbrev pub shows : List (List ℕ × SnapState) → Note
shows states = db (Show show.Snaps) (reply.Snaps states)

-- a snapshot of a to m, pinned by a group, or file-only with a hold
abbrev pub pinned_s1 : ℕ → Note
pinned_s1 group = c1 snap_s1 (reply.Pinned group)

abbrev pub file_only_s1 : ℕ → ℕ → Note
file_only_s1 hold version = holding (c1 snap_s1 reply.FileOnly) (Hold hold version ∷ [])

abbrev pub status_s1 : Reply → Note
status_s1 r = c1 (Status (codes "s1") status_form.Status) r

-- which group pins
abbrev pub pinned_by_groups : List Case
pinned_by_groups =
    -- the last that touches the ranges, and not the first or the last of all
    case (stored (codes "b" ∷ []) ∷ db Seal (reply.Group 1) ∷ stored (codes "x" ∷ codes "b" ∷ [])
    ∷ db Seal (reply.Group 2) ∷ stored (codes "x" ∷ []) ∷ []) (
    step (pinned_s1 2)
    ∷ no_step (pinned_s1 1)
    ∷ no_step (pinned_s1 3)
    ∷ no_step (c1 snap_s1 reply.FileOnly)
    ∷ [])
    -- the active one as well
    ∷ case (stored (codes "b" ∷ []) ∷ db Seal (reply.Group 1) ∷ stored (codes "b" ∷ []) ∷ []) (
    step (pinned_s1 2) ∷ no_step (pinned_s1 1) ∷ [])
    -- none that touches no range
    ∷ case (stored (codes "m" ∷ codes "x" ∷ []) ∷ []) (step (file_only_s1 1 0)
    ∷ no_step (holding (pinned_s1 1) (Hold 1 0 ∷ [])) ∷ [])
    ∷ case (stored (codes "a" ∷ []) ∷ []) (step (pinned_s1 1) ∷ no_step (c1 snap_s1 reply.FileOnly) ∷ [])
    -- any of the ranges serves
    ∷ case (stored (codes "n" ∷ []) ∷ []) (
    step (c1 (snap (codes "s1") (a_to_c ∷ m_to_t ∷ [])) (reply.Pinned 1))
    ∷ no_step (c1 (snap (codes "s1") (a_to_c ∷ m_to_t ∷ [])) reply.FileOnly)
    ∷ step (c1 (snap (codes "s1") (m_to_t ∷ (from_to (codes "x") (codes "y")) ∷ [])) (reply.Pinned 1))
    -- but not what lies between them
    ∷ step (holding (c1 (snap (codes "s1") (a_to_m
    ∷ (from_to (codes "x") (codes "y")) ∷ [])) reply.FileOnly) (Hold 1 0 ∷ []))
    ∷ [])
    -- a range delete touches what it meets
    ∷ case (c1 (delspan (from_to (codes "l") (codes "p"))) reply.Done ∷ []) (step (pinned_s1 1)
    ∷ no_step (c1 snap_s1 reply.FileOnly) ∷ [])
    ∷ case (c1 (delspan m_to_t) reply.Done ∷ []) (step (file_only_s1 1 0)
    ∷ no_step (holding (pinned_s1 1) (Hold 1 0 ∷ [])) ∷ [])
    -- a group that is flushed pins no more
    ∷ case (stored (codes "b" ∷ []) ∷ flushed 1 1 (table_of_key 1 (codes "b") 1)) (step (file_only_s1 1 1)
    ∷ no_step (holding (pinned_s1 1) (Hold 1 1 ∷ [])) ∷ [])
    ∷ []

-- a flush of the first group is to be put
abbrev pub first_put : Note
first_put = put_flush 1 (table_of_key 1 (codes "b") 1)

-- what comes from the mark on pins nothing
abbrev pub turned_at_flushes : List Case
turned_at_flushes =
    -- the next group begins at the mark, so the snapshot turns
    case (stored (codes "b" ∷ []) ∷ pinned_s1 1 ∷ db Seal (reply.Group 1) ∷ stored (codes "b" ∷ [])
    ∷ db FlushTake (reply.Job 1) ∷ []) (
    step (holding first_put (Hold 1 1 ∷ [])) ∷ wrong_holds first_put ∷ [])
    ∷ case (stored (codes "b" ∷ []) ∷ pinned_s1 1 ∷ db Seal (reply.Group 1) ∷ stored (codes "b" ∷ [])
    ∷ db FlushTake (reply.Job 1) ∷ holding first_put (Hold 1 1 ∷ []) ∷ []) (
    step (status_s1 reply.FileOnly) ∷ no_step (status_s1 (reply.Pinned 1))
    ∷ no_step (status_s1 (reply.Pinned 2)) ∷ [])
    -- a later group has an operation just below the mark, so it stays pinned
    ∷ case (stored (codes "b" ∷ []) ∷ db Seal (reply.Group 1) ∷ stored (codes "b" ∷ []) ∷ pinned_s1 2
    ∷ db FlushTake (reply.Job 1) ∷ []) (
    step first_put ∷ wrong_holds (holding first_put (Hold 1 1 ∷ [])) ∷ [])
    ∷ case (stored (codes "b" ∷ []) ∷ db Seal (reply.Group 1) ∷ stored (codes "b" ∷ []) ∷ pinned_s1 2
    ∷ db FlushTake (reply.Job 1) ∷ first_put ∷ []) (
    step (status_s1 (reply.Pinned 2)) ∷ no_step (status_s1 reply.FileOnly)
    ∷ no_step (status_s1 (reply.Pinned 1)) ∷ [])
    -- a later group has none in its ranges, so it turns
    ∷ case (stored (codes "b" ∷ []) ∷ db Seal (reply.Group 1) ∷ stored (codes "x" ∷ []) ∷ pinned_s1 1
    ∷ db FlushTake (reply.Job 1) ∷ []) (
    step (holding first_put (Hold 1 1 ∷ [])) ∷ wrong_holds first_put ∷ [])
    -- a flush that fails turns nothing
    ∷ case (stored (codes "b" ∷ []) ∷ pinned_s1 1 ∷ db Seal (reply.Group 1) ∷ db FlushTake (reply.Job 1)
    ∷ db (Build 1) reply.Fault ∷ []) (
    step (status_s1 (reply.Pinned 1)) ∷ no_step (status_s1 reply.FileOnly) ∷ [])
    -- and nor does one that isn't put yet
    ∷ case (stored (codes "b" ∷ []) ∷ pinned_s1 1 ∷ db Seal (reply.Group 1) ∷ db FlushTake (reply.Job 1)
    ∷ db (Put 1) reply.Memory ∷ []) (
    step (c1 (Status (codes "s1") status_form.Await) (reply.Pinned 1))
    ∷ no_step (c1 (Status (codes "s1") status_form.Await) reply.FileOnly) ∷ [])
    ∷ []

-- a table of x in L0 is compacted, and beside it a sealed group pins a snapshot
abbrev pub compacted_beside : List Note
compacted_beside =
    stored (codes "x" ∷ []) ∷ flushed 1 1 (table_of_key 1 (codes "x") 1)
    ++ stored (codes "b" ∷ []) ∷ pinned_s1 2 ∷ db Seal (reply.Group 2)
    ∷ holding (db (compact_l0 a_to_z) (reply.Job 2)) (Hold 1 1 ∷ [])
    ∷ []

abbrev pub second_put : Note
second_put =
    changing (db (Put 2) reply.Installed) (changes ((0, 1) ∷ []) (2 ∷ []) ((1, table_of_key 2 (codes "x") 1) ∷ []))

-- a compaction turns no snapshot, and takes no group away
abbrev pub turned_at_no_compaction : List Case
turned_at_no_compaction =
    case compacted_beside (
    step (holding second_put (Release 1 ∷ [])) ∷ wrong_holds (holding second_put (Release 1 ∷ Hold 2 2 ∷ []))
    ∷ [])
    ∷ case (compacted_beside ++ holding second_put (Release 1 ∷ []) ∷ []) (
    step (status_s1 (reply.Pinned 2))
    ∷ no_step (status_s1 reply.FileOnly)
    ∷ step (db FlushTake (reply.Job 3))
    ∷ no_step (db FlushTake reply.Nothing)
    ∷ [])
    ∷ []

-- a snapshot of a to c and m to t that a key of the first, or of the second, pins
abbrev pub two_ranges : List ℕ → List Note
two_ranges key = stored (key ∷ []) ∷ c1 (snap (codes "s1") (a_to_c ∷ m_to_t ∷ [])) (reply.Pinned 1) ∷ []

abbrev pub install_plain : List ℕ → Note
install_plain name = install name (changes [] [] [])

-- which spans excise
abbrev pub excised_by_spans : List Case
excised_by_spans =
    -- one that meets the second range, or the first
    case (two_ranges (codes "a") ++ excise (codes "l1") (from_to (codes "p") (codes "q"))
    ∷ install_plain (codes "l1") ∷ []) (
    step (status_s1 (reply.Excised (codes "l1")))
    ∷ no_step (status_s1 (reply.Pinned 1))
    ∷ no_step (status_s1 reply.FileOnly)
    ∷ [])
    ∷ case (two_ranges (codes "n") ++ excise (codes "l1") (from_to (codes "b") (codes "f"))
    ∷ install_plain (codes "l1") ∷ []) (
    step (status_s1 (reply.Excised (codes "l1"))) ∷ no_step (status_s1 (reply.Pinned 1)) ∷ [])
    -- not one that only touches both
    ∷ case (two_ranges (codes "a") ++ excise (codes "l1") (from_to (codes "c") (codes "m"))
    ∷ install_plain (codes "l1") ∷ []) (
    step (status_s1 (reply.Pinned 1)) ∷ no_step (status_s1 (reply.Excised (codes "l1"))) ∷ [])
    -- not before the install
    ∷ case (two_ranges (codes "a") ++ excise (codes "l1") (from_to (codes "p") (codes "q"))
    ∷ c1 (Install (codes "l1")) reply.Fault ∷ []) (
    step (status_s1 (reply.Pinned 1)) ∷ no_step (status_s1 (reply.Excised (codes "l1"))) ∷ [])
    -- not the tables of a load
    ∷ case (two_ranges (codes "a") ++ load (codes "l1") (table_with (codes "t") (codes "p" ∷ []) ∷ []) None
    ++ install (codes "l1") (changes [] (1 ∷ []) ((6, loaded_key 1 (codes "p") 2) ∷ [])) ∷ []) (
    step (status_s1 (reply.Pinned 1)) ∷ no_step (status_s1 (reply.Excised (codes "l1"))) ∷ [])
    ∷ case (two_ranges (codes "a")
    ++ load (codes "l1") (table_with (codes "t") (codes "p" ∷ []) ∷ []) (Some (from_to (codes "x") (codes "y")))
    ++ install (codes "l1") (changes [] (1 ∷ []) ((6, loaded_key 1 (codes "p") 2) ∷ [])) ∷ []) (
    step (status_s1 (reply.Pinned 1)) ∷ no_step (status_s1 (reply.Excised (codes "l1"))) ∷ [])
    ∷ []

abbrev pub b_to_c : Bounds
b_to_c = from_to (codes "b") (codes "c")

abbrev pub p_to_q : Bounds
p_to_q = from_to (codes "p") (codes "q")

-- which load is named
abbrev pub excised_by_the_first : List Case
excised_by_the_first =
    -- the first that was installed, and no later one
    case (two_ranges (codes "a") ++ excise (codes "l1") b_to_c ∷ excise (codes "l2") p_to_q
    ∷ install_plain (codes "l1") ∷ install_plain (codes "l2") ∷ []) (
    step (status_s1 (reply.Excised (codes "l1"))) ∷ no_step (status_s1 (reply.Excised (codes "l2"))) ∷ [])
    -- and not the first that was opened
    ∷ case (two_ranges (codes "a") ++ excise (codes "l1") b_to_c ∷ excise (codes "l2") p_to_q
    ∷ install_plain (codes "l2") ∷ install_plain (codes "l1") ∷ []) (
    step (status_s1 (reply.Excised (codes "l2"))) ∷ no_step (status_s1 (reply.Excised (codes "l1"))) ∷ [])
    ∷ []

-- a table of b that is removed
abbrev pub install_over_b : Note
install_over_b = install (codes "l1") (changes ((0, 1) ∷ []) [] [])

-- a snapshot that isn't pinned isn't excised, and one that is excised doesn't turn
abbrev pub excised_while_pinned : List Case
excised_while_pinned =
    case (stored (codes "b" ∷ []) ∷ pinned_s1 1 ∷ db Seal (reply.Group 1) ∷ db FlushTake (reply.Job 1)
    ∷ holding first_put (Hold 1 1 ∷ []) ∷ excise (codes "l1") a_to_m ∷ install_over_b ∷ []) (
    step (status_s1 reply.FileOnly) ∷ no_step (status_s1 (reply.Excised (codes "l1"))) ∷ [])
    ∷ case (file_only_s1 1 0 ∷ excise (codes "l1") a_to_m ∷ install_plain (codes "l1") ∷ []) (
    step (status_s1 reply.FileOnly) ∷ no_step (status_s1 (reply.Excised (codes "l1"))) ∷ [])
    -- a flush then gives no hold
    ∷ case (stored (codes "b" ∷ []) ∷ pinned_s1 1 ∷ excise (codes "l1") (from_to (codes "d") (codes "e"))
    ∷ install_plain (codes "l1")
    ∷ db Seal (reply.Group 1) ∷ db FlushTake (reply.Job 1) ∷ []) (
    step first_put ∷ wrong_holds (holding first_put (Hold 1 2 ∷ [])) ∷ [])
    ∷ case (stored (codes "b" ∷ []) ∷ pinned_s1 1 ∷ excise (codes "l1") (from_to (codes "d") (codes "e"))
    ∷ install_plain (codes "l1")
    ∷ db Seal (reply.Group 1) ∷ db FlushTake (reply.Job 1) ∷ first_put ∷ []) (
    step (status_s1 (reply.Excised (codes "l1")))
    ∷ no_step (status_s1 reply.FileOnly)
    -- its name stays in use until it is dropped, and then nothing is let go
    ∷ step (c1 snap_s1 reply.NameInUse)
    ∷ step (c1 (Drop (codes "s1")) reply.Dropped)
    ∷ [])
    -- of two snapshots the pinned one is excised
    ∷ case (file_only_s1 1 0 ∷ stored (codes "b" ∷ []) ∷ c1 (snap (codes "s2") (a_to_m ∷ [])) (reply.Pinned 1)
    ∷ excise (codes "l1") (from_to (codes "d") (codes "e")) ∷ install_plain (codes "l1") ∷ []) (
    step (shows ((codes "s1", state.FileOnly) ∷ (codes "s2", state.Excised (codes "l1")) ∷ []))
    ∷ no_step (shows ((codes "s1", state.Excised (codes "l1")) ∷ (codes "s2", state.Excised (codes "l1"))
    ∷ []))
    ∷ no_step (shows ((codes "s1", state.FileOnly) ∷ (codes "s2", state.Pinned 1) ∷ []))
    ∷ [])
    ∷ []

abbrev pub made : List Bounds → Note
made ranges = holding (c1 (snap (codes "s1") ranges) reply.FileOnly) (Hold 1 0 ∷ [])

abbrev pub bad : List Bounds → Note
bad ranges = c1 (snap (codes "s1") ranges) reply.BadRanges

-- ranges have to rise
abbrev pub ranges_of_snapshots : List Case
ranges_of_snapshots =
    case [] (
    -- those that touch do
    step (made (a_to_c ∷ c_to_e ∷ []))
    ∷ no_step (bad (a_to_c ∷ c_to_e ∷ []))
    ∷ step (made (a_to_c ∷ c_to_e ∷ m_to_t ∷ []))
    -- those that meet don't, nor those that fall
    ∷ step (bad (from_upto (codes "a") (codes "c") ∷ c_to_e ∷ []))
    ∷ no_step (made (from_upto (codes "a") (codes "c") ∷ c_to_e ∷ []))
    ∷ step (bad (a_to_c ∷ a_to_c ∷ []))
    ∷ no_step (made (a_to_c ∷ a_to_c ∷ []))
    ∷ step (bad (m_to_t ∷ a_to_c ∷ []))
    ∷ no_step (made (m_to_t ∷ a_to_c ∷ []))
    -- every two neighbours are asked
    ∷ step (bad (a_to_c ∷ c_to_e ∷ from_to (codes "d") (codes "f") ∷ []))
    ∷ no_step (made (a_to_c ∷ c_to_e ∷ from_to (codes "d") (codes "f") ∷ []))
    ∷ [])
    ∷ []

-- three snapshots, made in another order than that of their names
abbrev pub three_snaps : List Note
three_snaps =
    holding (c1 (snap (codes "t") (a_to_m ∷ [])) reply.FileOnly) (Hold 1 0 ∷ [])
    ∷ stored (codes "b" ∷ [])
    ∷ c1 (snap (codes "sb") (a_to_m ∷ [])) (reply.Pinned 1)
    ∷ holding (c1 (snap (codes "s") (m_to_t ∷ [])) reply.FileOnly) (Hold 2 0 ∷ [])
    ∷ []

-- snapshots are shown by name
abbrev pub shown_by_name : List Case
shown_by_name =
    case three_snaps (
    step (shows ((codes "s", state.FileOnly) ∷ (codes "sb", state.Pinned 1) ∷ (codes "t", state.FileOnly)
    ∷ []))
    ∷ no_step (shows ((codes "t", state.FileOnly) ∷ (codes "sb", state.Pinned 1)
    ∷ (codes "s", state.FileOnly) ∷ []))
    ∷ no_step (shows ((codes "s", state.FileOnly) ∷ (codes "t", state.FileOnly)
    ∷ (codes "sb", state.Pinned 1) ∷ []))
    ∷ no_step (shows ((codes "s", state.FileOnly) ∷ (codes "sb", state.FileOnly)
    ∷ (codes "t", state.FileOnly) ∷ []))
    ∷ no_step (shows ((codes "s", state.FileOnly) ∷ (codes "t", state.FileOnly) ∷ []))
    ∷ no_step (db (Show show.Snaps) (reply.Levels ([] ∷ [] ∷ [] ∷ [] ∷ [] ∷ [] ∷ [] ∷ [])))
    ∷ [])
    ∷ case [] (step (shows []) ∷ [])
    ∷ []

-- how long a name is in use
abbrev pub names_of_snapshots : List Case
names_of_snapshots =
    case three_snaps (
    -- for all clients, and for that name alone
    step (c2 (snap (codes "s") (a_to_m ∷ [])) reply.NameInUse)
    ∷ no_step (c2 (snap (codes "s") (a_to_m ∷ [])) (reply.Pinned 1))
    ∷ step (c1 (snap (codes "sba") (a_to_m ∷ [])) (reply.Pinned 1))
    ∷ no_step (c1 (snap (codes "sba") (a_to_m ∷ [])) reply.NameInUse)
    ∷ step (c1 (Status (codes "sba") status_form.Status) reply.NoSuch)
    -- and for no cursor
    ∷ step (holding (c1 (Cursor (codes "s") a_to_m None) reply.CursorOn) (Hold 3 0 ∷ []))
    ∷ no_step (c1 (Cursor (codes "s") a_to_m None) reply.NameInUse)
    ∷ [])
    -- until it is dropped, and no other with it
    ∷ case (three_snaps ++ let_go (Drop (codes "s")) reply.Dropped 2 ∷ []) (
    step (c1 (snap (codes "s") (a_to_m ∷ [])) (reply.Pinned 1))
    ∷ no_step (c1 (snap (codes "s") (a_to_m ∷ [])) reply.NameInUse)
    ∷ step (c1 (Status (codes "s") status_form.Status) reply.NoSuch)
    ∷ no_step (c1 (Status (codes "s") status_form.Status) reply.FileOnly)
    ∷ step (c1 (Status (codes "sb") status_form.Status) (reply.Pinned 1))
    ∷ no_step (c1 (Status (codes "sb") status_form.Status) reply.NoSuch)
    ∷ step (c2 (Drop (codes "sb")) reply.Dropped)
    ∷ [])
    ∷ []

abbrev pub scan_at : Bounds → Question
scan_at range = Scan range 10 (Some (codes "s1"))

-- what looks at a snapshot lies inside one range
abbrev pub inside_of_ranges : List Case
inside_of_ranges =
    case (made (a_to_c ∷ c_to_e ∷ []) ∷ []) (
    -- a key
    step (ask_held 1 (get_at (codes "c") (codes "s1")) true (Hold 2 0))
    ∷ no_step (ask_refused (get_at (codes "c") (codes "s1")) reply.Outside)
    ∷ step (ask_held 1 (get_at (codes "a") (codes "s1")) true (Hold 2 0))
    ∷ step (ask_refused (get_at (codes "e") (codes "s1")) reply.Outside)
    ∷ no_step (ask_held 1 (get_at (codes "e") (codes "s1")) true (Hold 2 0))
    -- a range: one, and not two together
    ∷ step (ask_held 1 (scan_at c_to_e) true (Hold 2 0))
    ∷ no_step (ask_refused (scan_at c_to_e) reply.Outside)
    ∷ step (ask_refused (scan_at (from_to (codes "b") (codes "d"))) reply.Outside)
    ∷ no_step (ask_held 1 (scan_at (from_to (codes "b") (codes "d"))) true (Hold 2 0))
    ∷ no_step (ask_held 1 (scan_at (from_upto (codes "d") (codes "e"))) true (Hold 2 0))
    ∷ no_step (ask_held 1 (RScan (from_to (codes "b") (codes "d")) 10 (Some (codes "s1"))) true (Hold 2 0))
    ∷ step (ask_held 1 (RScan a_to_c 10 (Some (codes "s1"))) true (Hold 2 0))
    -- and the same of cursors
    ∷ step (holding (c1 (Cursor (codes "k") a_to_c (Some (codes "s1"))) reply.CursorOn) (Hold 2 0 ∷ []))
    ∷ step (c1 (Cursor (codes "k") (from_to (codes "b") (codes "d")) (Some (codes "s1"))) reply.Outside)
    ∷ no_step (holding (c1 (Cursor (codes "k") (from_to (codes "b") (codes "d"))
    (Some (codes "s1"))) reply.CursorOn) (Hold 2 0 ∷ []))
    ∷ [])
    ∷ []
