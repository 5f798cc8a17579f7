-- How many of a kind may be open at a time: at the limit, and one beyond.
use Rattle.std.specs.Prelude.{ℕ, true, false, List, [], ◌∷◌, ◌++◌, ◌+◌, map, None, codes}
use Rattle.xdb_edit.specs.Changes.{changes}
use Rattle.xdb_meta.specs.Table.{Table}
use Rattle.xdb_plain.specs.Tables.{TableOps}
use Rattle.xdb_plain.specs.declared.act.Act.{Act}
use Rattle.xdb_plain.specs.declared.act.Act.TheVariants.{Seal, FlushTake, CompactTake, Put, Build, Snap, Drop, Cursor, Shut, Work}
use Rattle.xdb_plain.specs.declared.act.Which.TheVariants.{At}
use Rattle.xdb_plain.specs.declared.note.HoldNote.TheVariants.{Hold, Release}
use Rattle.xdb_plain.specs.declared.note.Note.{Note}
use Rattle.xdb_plain.specs.declared.reply.Reply.TheVariants as reply
use Rattle.xdb_rows.specs.Judged.{Case, case, step, no_step}
use Rattle.xdb_rows.specs.Notes.{c1, db, holding, changing, from_to, from_upto, get, excise, install, load, let_go, ask_held, ask_refused}
use Rattle.xdb_rows.specs.Tables.Small.{a_to_m, stored, table_with, opens, opens_span, loaded_key, nth_name, many_loads, many_cursors, many_questions, many_snaps}

abbrev pub x_to_y : Act
x_to_y = opens_span (codes "l") (from_to (codes "x") (codes "y"))

abbrev pub opens_k : Act
opens_k = opens (codes "k") (table_with (codes "t") (codes "w" ∷ []) ∷ []) None

-- 16 loads
abbrev pub limit_of_loads : List Case
limit_of_loads =
    case (many_loads 15) (step (c1 x_to_y reply.Opened) ∷ no_step (c1 x_to_y reply.TooMany) ∷ [])
    ∷ case (many_loads 16) (step (c1 x_to_y reply.TooMany) ∷ no_step (c1 x_to_y reply.Opened) ∷ [])
    -- one that is installed isn't open any more
    ∷ case (many_loads 16 ++ install (nth_name 16) (changes [] [] []) ∷ []) (
    step (c1 x_to_y reply.Opened) ∷ no_step (c1 x_to_y reply.TooMany) ∷ [])
    -- one that is being opened is
    ∷ case (many_loads 15 ++ c1 opens_k reply.Opening ∷ []) (
    step (c1 x_to_y reply.TooMany)
    ∷ no_step (c1 x_to_y reply.Opened)
    ∷ step (c1 opens_k reply.Opened)
    ∷ [])
    -- until that fails
    ∷ case (many_loads 15 ++ c1 opens_k reply.Opening ∷ c1 opens_k reply.Fault ∷ []) (
    step (c1 x_to_y reply.Opened) ∷ no_step (c1 x_to_y reply.TooMany) ∷ [])
    ∷ []

abbrev pub snap_s : Act
snap_s = Snap (codes "s") (a_to_m ∷ [])

-- 64 snapshots
abbrev pub limit_of_snapshots : List Case
limit_of_snapshots =
    case (many_snaps 63) (
    step (holding (c1 snap_s reply.FileOnly) (Hold 64 0 ∷ [])) ∷ no_step (c1 snap_s reply.TooMany) ∷ [])
    ∷ case (many_snaps 64) (
    step (c1 snap_s reply.TooMany) ∷ no_step (holding (c1 snap_s reply.FileOnly) (Hold 65 0 ∷ [])) ∷ [])
    -- pinned ones count
    ∷ case (many_snaps 63 ++ stored (codes "b" ∷ []) ∷ c1 (Snap (codes "p") (a_to_m ∷ [])) (reply.Pinned 1)
    ∷ []) (
    step (c1 snap_s reply.TooMany) ∷ no_step (c1 snap_s (reply.Pinned 1)) ∷ [])
    -- one that is dropped makes room
    ∷ case (many_snaps 64 ++ let_go (Drop (nth_name 7)) reply.Dropped 7 ∷ []) (
    step (holding (c1 snap_s reply.FileOnly) (Hold 65 0 ∷ [])) ∷ no_step (c1 snap_s reply.TooMany) ∷ [])
    ∷ []

abbrev pub cursor_k : Act
cursor_k = Cursor (codes "k") a_to_m None

-- 64 cursors
abbrev pub limit_of_cursors : List Case
limit_of_cursors =
    case (many_cursors 63) (
    step (holding (c1 cursor_k reply.CursorOn) (Hold 64 0 ∷ [])) ∷ no_step (c1 cursor_k reply.TooMany) ∷ [])
    ∷ case (many_cursors 64) (
    step (c1 cursor_k reply.TooMany)
    ∷ no_step (holding (c1 cursor_k reply.CursorOn) (Hold 65 0 ∷ []))
    -- snapshots and questions have limits of their own
    ∷ step (holding (c1 snap_s reply.FileOnly) (Hold 65 0 ∷ []))
    ∷ step (ask_held 1 (get (codes "a")) true (Hold 65 0))
    ∷ [])
    -- one that is shut makes room
    ∷ case (many_cursors 64 ++ let_go (Shut (nth_name 7)) reply.Shut 7 ∷ []) (
    step (holding (c1 cursor_k reply.CursorOn) (Hold 65 0 ∷ [])) ∷ no_step (c1 cursor_k reply.TooMany) ∷ [])
    ∷ []

-- 64 open questions
abbrev pub limit_of_questions : List Case
limit_of_questions =
    case (many_questions 63) (
    step (ask_held 64 (get (codes "a")) true (Hold 64 0))
    ∷ no_step (ask_refused (get (codes "a")) reply.TooMany) ∷ [])
    ∷ case (many_questions 64) (
    step (ask_refused (get (codes "a")) reply.TooMany)
    ∷ no_step (ask_held 65 (get (codes "a")) true (Hold 65 0))
    ∷ no_step (ask_held 65 (get (codes "a")) false (Hold 65 0))
    ∷ [])
    -- one that failed makes room; the next has the next number
    ∷ case (many_questions 64 ++ holding (db (Work 7) reply.Fault) (Release 7 ∷ []) ∷ []) (
    step (ask_held 65 (get (codes "a")) true (Hold 65 0))
    ∷ no_step (ask_held 7 (get (codes "a")) true (Hold 65 0))
    ∷ no_step (ask_refused (get (codes "a")) reply.TooMany)
    ∷ [])
    ∷ []

-- the keys a to e, each in a table of a load
abbrev pub five_tables : List TableOps
five_tables =
    map (λ k. table_with k (k ∷ [])) (codes "a" ∷ codes "c" ∷ codes "e" ∷ codes "g" ∷ codes "i" ∷ [])

-- the tables of the load, from a number on, in a level
abbrev pub five_loaded : ℕ → ℕ → ℕ → List (ℕ × Table)
five_loaded level num seq =
    (level, loaded_key num (codes "a") seq)
    ∷ (level, loaded_key (num + 1) (codes "c") seq)
    ∷ (level, loaded_key (num + 2) (codes "e") seq)
    ∷ (level, loaded_key (num + 3) (codes "g") seq)
    ∷ (level, loaded_key (num + 4) (codes "i") seq)
    ∷ []

-- two loads of the same keys: the first goes to L6, and the second to L5
abbrev pub five_in_l5 : List Note
five_in_l5 =
    load (codes "l1") five_tables None
    ++ install (codes "l1") (changes [] (1 ∷ 2 ∷ 3 ∷ 4 ∷ 5 ∷ []) (five_loaded 6 1 1))
    ∷ load (codes "l2") five_tables None
    ++ install (codes "l2") (changes [] (6 ∷ 7 ∷ 8 ∷ 9 ∷ 10 ∷ []) (five_loaded 5 6 2))
    ∷ []

-- a compaction of the table of a key
abbrev pub compact_key : List ℕ → ℕ → Note
compact_key key job = holding (db (CompactTake (At 5 (from_upto key key))) (reply.Job job)) (Hold job 2 ∷ [])

abbrev pub no_compact : List ℕ → Note
no_compact key = db (CompactTake (At 5 (from_upto key key))) reply.Nothing

abbrev pub three_compactions : List Note
three_compactions =
    five_in_l5 ++ compact_key (codes "a") 1 ∷ compact_key (codes "c") 2 ∷ compact_key (codes "e") 3 ∷ []

abbrev pub four_compactions : List Note
four_compactions = three_compactions ++ compact_key (codes "g") 4 ∷ []

-- the table of c is cut out
abbrev pub cancelled_c : List Note
cancelled_c =
    excise (codes "l3") (from_upto (codes "c") (codes "c"))
    ∷ install (codes "l3") (changes ((5, 7) ∷ (6, 2) ∷ []) [] [])
    ∷ []

-- a compaction of i that begins in the version behind that
abbrev pub compact_i_later : Note
compact_i_later =
    holding (db (CompactTake (At 5 (from_upto (codes "i") (codes "i")))) (reply.Job 5)) (Hold 5 3 ∷ [])

-- 4 compactions
abbrev pub limit_of_compactions : List Case
limit_of_compactions =
    case three_compactions (step (compact_key (codes "g") 4) ∷ no_step (no_compact (codes "g")) ∷ [])
    ∷ case four_compactions (step (no_compact (codes "i")) ∷ no_step (compact_key (codes "i") 5) ∷ [])
    ∷ []

-- a flush isn't a compaction, and begins beside four
abbrev pub flushes_beside_compactions : List Case
flushes_beside_compactions =
    case (three_compactions ++ stored (codes "x" ∷ []) ∷ db Seal (reply.Group 1) ∷ db FlushTake (reply.Job 4)
    ∷ []) (
    step (compact_key (codes "g") 5) ∷ no_step (no_compact (codes "g")) ∷ [])
    ∷ case (four_compactions ++ stored (codes "x" ∷ []) ∷ db Seal (reply.Group 1) ∷ []) (
    step (db FlushTake (reply.Job 5)) ∷ no_step (db FlushTake reply.Nothing) ∷ [])
    ∷ []

-- one that ended makes room
abbrev pub room_after_compactions : List Case
room_after_compactions =
    case (four_compactions ++ holding (db (Build 2) reply.Fault) (Release 2 ∷ []) ∷ []) (
    step (compact_key (codes "i") 5)
    ∷ no_step (no_compact (codes "i"))
    -- over its own keys too, but not over those of the others
    ∷ step (compact_key (codes "c") 5)
    ∷ step (no_compact (codes "a"))
    ∷ step (no_compact (codes "g"))
    ∷ no_step (compact_key (codes "g") 5)
    ∷ [])
    -- one that isn't put yet doesn't
    ∷ case (four_compactions ++ db (Put 2) reply.NotYet ∷ []) (step (no_compact (codes "i")) ∷ [])
    ∷ case (four_compactions
    ++ holding (changing (db (Put 2) reply.Installed) (changes ((5, 7)
    ∷ (6, 2) ∷ []) (75 ∷ []) ((6, loaded_key 75 (codes "c") 2) ∷ []))) (Release 2 ∷ []) ∷ []) (
    step compact_i_later
    ∷ no_step (no_compact (codes "i"))
    ∷ [])
    ∷ []

-- one that is cancelled counts until it is put
abbrev pub room_after_cancelling : List Case
room_after_cancelling =
    case (four_compactions ++ cancelled_c) (
    step (no_compact (codes "i"))
    ∷ no_step compact_i_later
    ∷ [])
    ∷ case (four_compactions ++ cancelled_c
    ++ holding (db (Put 2) (reply.Cancelled (codes "l3"))) (Release 2 ∷ []) ∷ []) (
    step compact_i_later
    ∷ no_step (no_compact (codes "i"))
    ∷ [])
    ∷ []
