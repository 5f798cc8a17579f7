-- What a running compaction keeps others from, what cancels it, where loaded tables go, and which plan is taken.
use Rattle.std.specs.Prelude.{ℕ, List, [], ◌∷◌, ◌++◌, None, Some, codes}
use Rattle.xdb_key.specs.Bounds.{Bounds, successor}
use Rattle.xdb_key.specs.declared.op.Op.TheVariants.{DelSpan}
use Rattle.xdb_meta.specs.Table.{Table}
use Rattle.xdb_edit.specs.Changes.{changes}
use Rattle.xdb_plain.specs.Tables.{TableOps, table_ops}
use Rattle.xdb_plain.specs.declared.act.Act.TheVariants.{CompactTake, Put, Build, Install}
use Rattle.xdb_plain.specs.declared.act.Which.TheVariants.{Auto, At}
use Rattle.xdb_plain.specs.declared.note.HoldNote.TheVariants.{Hold, Release}
use Rattle.xdb_plain.specs.declared.note.Note.{Note}
use Rattle.xdb_plain.specs.declared.reply.Reply.TheVariants as reply
use Rattle.xdb_rows.specs.Judged.{Case, case, step, no_step}
use Rattle.xdb_rows.specs.Notes.{c1, db, holding, changing, from_to, from_upto, file_table, loaded_table, table_of_key, half_of, flushed, excise, install, load, compact_l0}
use Rattle.xdb_rows.specs.Tables.Small.{a_to_c, a_to_z, stored, table_with, loaded_key}

abbrev pub one : List ℕ → Bounds
one key = from_upto key key

-- a compaction begins over a range, of L0 or of another level, or by itself, and holds a version
abbrev pub compact : Bounds → ℕ → ℕ → Note
compact range job version = holding (db (compact_l0 range) (reply.Job job)) (Hold job version ∷ [])

abbrev pub compact_at : ℕ → Bounds → ℕ → ℕ → Note
compact_at level range job version =
    holding (db (CompactTake (At level range)) (reply.Job job)) (Hold job version ∷ [])

abbrev pub compact_auto : ℕ → ℕ → Note
compact_auto job version = holding (db (CompactTake Auto) (reply.Job job)) (Hold job version ∷ [])

-- it ends: with these inputs and outputs, or cancelled by a load
abbrev pub put_compaction : ℕ → List (ℕ × ℕ) → List ℕ → List (ℕ × Table) → Note
put_compaction job inputs files outputs =
    holding (changing (db (Put job) reply.Installed) (changes inputs files outputs)) (Release job ∷ [])

abbrev pub put_cancelled : ℕ → List ℕ → Note
put_cancelled job load_name = holding (db (Put job) (reply.Cancelled load_name)) (Release job ∷ [])

abbrev pub behind_a : Bounds
behind_a = from_to (successor (codes "a")) (codes "c")

abbrev pub behind_d : Bounds
behind_d = from_to (successor (codes "d")) (codes "f")

abbrev pub x_to_y : Bounds
x_to_y = from_to (codes "x") (codes "y")

abbrev pub only_b : List TableOps
only_b = table_with (codes "t") (codes "b" ∷ []) ∷ []

abbrev pub a_to_d : Bounds
a_to_d = from_upto (codes "a") (codes "d")

abbrev pub table_a_to_d : Table
table_a_to_d = file_table 1 a_to_d 1 2 90

abbrev pub half_a : Table
half_a = half_of table_a_to_d 66 (one (codes "a"))

abbrev pub half_d : Table
half_d = half_of table_a_to_d 67 (one (codes "d"))

-- a compaction of a table from a to d runs, with the file numbers 2 to 65
abbrev pub running : List Note
running = stored (codes "a" ∷ codes "d" ∷ []) ∷ flushed 1 1 table_a_to_d ++ compact a_to_z 2 1 ∷ []

-- the table is cut in two
abbrev pub install_halves : List ℕ → Note
install_halves name = install name (changes ((0, 1) ∷ []) [] ((0, half_a) ∷ (0, half_d) ∷ []))

-- the compaction is cancelled by l1
abbrev pub cancelled : List Note
cancelled = running ++ excise (codes "l1") (from_to (codes "b") (codes "c")) ∷ install_halves (codes "l1") ∷ []

-- it is put as if it weren't
abbrev pub put_running : Note
put_running = put_compaction 2 ((0, 1) ∷ []) (2 ∷ []) ((1, file_table 2 a_to_d 1 2 90) ∷ [])

abbrev pub install_b : ℕ → Note
install_b level = install (codes "l2") (changes [] (68 ∷ []) ((level, loaded_key 68 (codes "b") 3) ∷ []))

-- a cancelled compaction keeps plans and places off until it is put
abbrev pub blocked_by_cancelled : List Case
blocked_by_cancelled =
    case cancelled (
    step (db (compact_l0 (one (codes "a"))) reply.Nothing) ∷ no_step (compact (one (codes "a")) 3 2) ∷ [])
    ∷ case (cancelled ++ put_cancelled 2 (codes "l1") ∷ []) (
    step (compact (one (codes "a")) 3 2)
    ∷ no_step (db (compact_l0 (one (codes "a"))) reply.Nothing)
    ∷ step (db (Put 2) reply.NoSuch)
    ∷ no_step (db (Put 2) reply.NotYet)
    ∷ [])
    ∷ case (cancelled ++ load (codes "l2") only_b None) (
    step (install_b 0) ∷ no_step (install_b 6) ∷ [])
    ∷ case (cancelled ++ load (codes "l2") only_b None ++ put_cancelled 2 (codes "l1") ∷ []) (
    step (install_b 6) ∷ no_step (install_b 0) ∷ [])
    -- one that failed keeps nothing off any more
    ∷ case (running ++ holding (db (Build 2) reply.Fault) (Release 2 ∷ []) ∷ []) (
    step (compact (one (codes "a")) 3 1) ∷ no_step (db (compact_l0 (one (codes "a"))) reply.Nothing) ∷ [])
    ∷ []

abbrev pub b_to_c : Bounds
b_to_c = from_to (codes "b") (codes "c")

abbrev pub c_to_d : Bounds
c_to_d = from_to (codes "c") (codes "d")

abbrev pub install_plain : List ℕ → Note
install_plain name = install name (changes [] [] [])

-- which load is named
abbrev pub cancelled_by_the_first : List Case
cancelled_by_the_first =
    -- the first that was installed, and no later one
    case (running ++ excise (codes "l1") b_to_c ∷ excise (codes "l2") c_to_d ∷ install_halves (codes "l1")
    ∷ install_plain (codes "l2") ∷ []) (
    step (put_cancelled 2 (codes "l1"))
    ∷ no_step (put_cancelled 2 (codes "l2"))
    ∷ no_step put_running
    ∷ [])
    -- and not the first that was opened
    ∷ case (running ++ excise (codes "l1") b_to_c ∷ excise (codes "l2") c_to_d ∷ install_halves (codes "l2")
    ∷ install_plain (codes "l1") ∷ []) (
    step (put_cancelled 2 (codes "l2")) ∷ no_step (put_cancelled 2 (codes "l1")) ∷ [])
    ∷ []

-- which spans cancel
abbrev pub cancelled_by_spans : List Case
cancelled_by_spans =
    -- not those that only touch the hull
    case (running ++ excise (codes "l1") (from_to (successor (codes "d")) (codes "z"))
    ∷ install_plain (codes "l1")
    ∷ excise (codes "l2") (from_to (codes "A") (codes "a")) ∷ install_plain (codes "l2") ∷ []) (
    step put_running
    ∷ step (db (Put 2) reply.Memory)
    ∷ no_step (put_cancelled 2 (codes "l1"))
    ∷ no_step (put_cancelled 2 (codes "l2"))
    ∷ [])
    -- one that meets its last key
    ∷ case (running ++ excise (codes "l1") (from_to (codes "d") (codes "e"))
    ∷ install (codes "l1") (changes ((0, 1) ∷ []) [] ((0, half_a) ∷ [])) ∷ []) (
    step (put_cancelled 2 (codes "l1")) ∷ no_step put_running ∷ [])
    -- none before its install
    ∷ case (running ++ excise (codes "l1") b_to_c ∷ c1 (Install (codes "l1")) reply.Fault ∷ []) (
    step put_running ∷ no_step (put_cancelled 2 (codes "l1")) ∷ [])
    -- not the tables of a load, with a span beside the hull or with none
    ∷ case (running ++ load (codes "l1") only_b None
    ++ install (codes "l1") (changes [] (66 ∷ []) ((0, loaded_key 66 (codes "b") 3) ∷ [])) ∷ []) (
    step put_running ∷ no_step (put_cancelled 2 (codes "l1")) ∷ [])
    ∷ case (running ++ load (codes "l1") only_b (Some x_to_y)
    ++ install (codes "l1") (changes [] (66 ∷ []) ((0, loaded_key 66 (codes "b") 3) ∷ [])) ∷ []) (
    step put_running ∷ no_step (put_cancelled 2 (codes "l1")) ∷ [])
    ∷ []

-- tables of a and d in L0
abbrev pub a_and_d : List Note
a_and_d =
    stored (codes "a" ∷ []) ∷ flushed 1 1 (table_of_key 1 (codes "a") 1)
    ++ stored (codes "d" ∷ []) ∷ flushed 2 2 (table_of_key 2 (codes "d") 2)

-- each runs for itself: a span cancels those whose hull it meets
abbrev pub cancelled_apart : List Case
cancelled_apart =
    case (a_and_d ++ compact (one (codes "a")) 3 2 ∷ compact (one (codes "d")) 4 2 ∷ excise (codes "l1") a_to_c
    ∷ install (codes "l1") (changes ((0, 1) ∷ []) [] []) ∷ []) (
    step (put_cancelled 3 (codes "l1"))
    ∷ no_step (put_compaction 3 ((0, 1) ∷ []) (3 ∷ []) ((1, table_of_key 3 (codes "a") 1) ∷ []))
    ∷ step (put_compaction 4 ((0, 2) ∷ []) (67 ∷ []) ((1, table_of_key 67 (codes "d") 2) ∷ []))
    ∷ no_step (put_cancelled 4 (codes "l1"))
    ∷ [])
    ∷ []

-- a load of a table of b, and its install
abbrev pub load_b : List Note
load_b = load (codes "l1") only_b None

abbrev pub b_to : ℕ → ℕ → ℕ → Note
b_to level num seq = install (codes "l1") (changes [] (num ∷ []) ((level, loaded_key num (codes "b") seq) ∷ []))

-- the hull of a running compaction keeps tables in L0, also where it has none
abbrev pub placed_beside_running : List Case
placed_beside_running =
    case (a_and_d ++ load_b) (step (b_to 6 3 3) ∷ no_step (b_to 0 3 3) ∷ no_step (b_to 5 3 3) ∷ [])
    ∷ case (a_and_d ++ compact a_to_z 3 2 ∷ load_b) (step (b_to 0 67 3) ∷ no_step (b_to 6 67 3)
    ∷ no_step (b_to 1 67 3) ∷ [])
    -- what only touches it goes down
    ∷ case (a_and_d ++ compact a_to_z 3 2
    ∷ load (codes "l1") (table_ops (codes "t") (DelSpan behind_d ∷ []) ∷ []) None) (
    step (install (codes "l1") (changes [] (67 ∷ []) ((6, loaded_table 67 behind_d 3 80) ∷ [])))
    ∷ no_step (install (codes "l1") (changes [] (67 ∷ []) ((0, loaded_table 67 behind_d 3 80) ∷ [])))
    ∷ [])
    ∷ []

-- a load of a table of a, which goes to a level
abbrev pub a_goes : List ℕ → ℕ → ℕ → List Note
a_goes name num level =
    load name (table_with (codes "t") (codes "a" ∷ []) ∷ []) None
    ++ install name (changes [] (num ∷ []) ((level, loaded_key num (codes "a") num) ∷ [])) ∷ []

abbrev pub a_to : ℕ → ℕ → ℕ → Note
a_to num seq level = install (codes "l9") (changes [] (num ∷ []) ((level, loaded_key num (codes "a") seq) ∷ []))

abbrev pub load_a : List Note
load_a = load (codes "l9") (table_with (codes "t") (codes "a" ∷ []) ∷ []) None

-- a table goes to the greatest level such that nothing in it or above it is met
abbrev pub placed_above : List Case
placed_above =
    case load_a (step (a_to 1 1 6) ∷ no_step (a_to 1 1 5) ∷ no_step (a_to 1 1 0) ∷ [])
    ∷ case (a_goes (codes "l1") 1 6 ++ load_a) (step (a_to 2 2 5) ∷ no_step (a_to 2 2 6)
    ∷ no_step (a_to 2 2 4) ∷ [])
    ∷ case (a_goes (codes "l1") 1 6 ++ a_goes (codes "l2") 2 5 ++ load_a) (
    step (a_to 3 3 4) ∷ no_step (a_to 3 3 3) ∷ no_step (a_to 3 3 5) ∷ [])
    -- L0 is above them all
    ∷ case (stored (codes "a" ∷ []) ∷ flushed 1 1 (table_of_key 1 (codes "a") 1) ++ load_a) (
    step (a_to 2 2 0) ∷ no_step (a_to 2 2 6) ∷ no_step (a_to 2 2 1) ∷ [])
    -- and so is L1, where nothing but L0 is above
    ∷ case (stored (codes "a" ∷ []) ∷ flushed 1 1 (table_of_key 1 (codes "a") 1) ++ compact a_to_z 2 1
    ∷ put_compaction 2 ((0, 1) ∷ []) (2 ∷ []) ((1, table_of_key 2 (codes "a") 1) ∷ []) ∷ load_a) (
    step (a_to 66 2 0) ∷ no_step (a_to 66 2 1) ∷ no_step (a_to 66 2 6) ∷ [])
    -- what only touches a table is beside it
    ∷ case (stored (codes "a" ∷ []) ∷ flushed 1 1 (table_of_key 1 (codes "a") 1)
    ++ load (codes "l9") (table_ops (codes "t") (DelSpan behind_a ∷ []) ∷ []) None) (
    step (install (codes "l9") (changes [] (2 ∷ []) ((6, loaded_table 2 behind_a 2 80) ∷ [])))
    ∷ no_step (install (codes "l9") (changes [] (2 ∷ []) ((0, loaded_table 2 behind_a 2 80) ∷ [])))
    ∷ [])
    ∷ []

abbrev pub table_a_to_z : Table
table_a_to_z = file_table 1 (from_upto (codes "a") (codes "z")) 1 2 90

-- a load of c with the span from x to y, over a table from a to z
abbrev pub span_and_c : List Note
span_and_c = load (codes "l2") (table_with (codes "t") (codes "c" ∷ []) ∷ []) (Some x_to_y)

-- the table is cut: its left half ends at a key, and the loaded table is written before the halves or behind them
abbrev pub cut_l0_and_c : List ℕ → List (ℕ × Table) → List (ℕ × Table) → Note
cut_l0_and_c last before behind =
    install (codes "l2") (changes ((0, 1) ∷ []) (2 ∷ []) (before
    ++ (0, half_of table_a_to_z 3 (from_upto (codes "a") last))
    ∷ (0, half_of table_a_to_z 4 (from_upto (codes "z") (codes "z")))
    ∷ behind))

abbrev pub c_at : ℕ → List (ℕ × Table)
c_at level = (level, loaded_key 2 (codes "c") 3) ∷ []

-- a table in L6 from a to z, and later a load of c over it
abbrev pub l6_a_to_z : Table
l6_a_to_z = loaded_table 1 (from_upto (codes "a") (codes "z")) 1 90

abbrev pub a_to_z_in_l6 : List Note
a_to_z_in_l6 =
    load (codes "l1") (table_with (codes "t") (codes "a" ∷ codes "z" ∷ []) ∷ []) None
    ++ install (codes "l1") (changes [] (1 ∷ []) ((6, l6_a_to_z) ∷ [])) ∷ []

abbrev pub cut_l6_and_c : List ℕ → ℕ → Note
cut_l6_and_c last level =
    install (codes "l2") (changes ((6, 1) ∷ []) (2 ∷ []) ((level, loaded_key 2 (codes "c") 2)
    ∷ (6, half_of l6_a_to_z 3 (from_upto (codes "a") last))
    ∷ (6, half_of l6_a_to_z 4 (from_upto (codes "z") (codes "z")))
    ∷ []))

-- a loaded table has its place in what the halves leave
abbrev pub placed_above_halves : List Case
placed_above_halves =
    -- a half that holds its key keeps it in L0
    case (stored (codes "a" ∷ codes "z" ∷ []) ∷ flushed 1 1 table_a_to_z ++ span_and_c) (
    step (cut_l0_and_c (codes "c") (c_at 0) [])
    ∷ no_step (cut_l0_and_c (codes "c") [] (c_at 6))
    -- a half that ends before it doesn't, though the table did
    ∷ step (cut_l0_and_c (codes "b") [] (c_at 6))
    ∷ no_step (cut_l0_and_c (codes "b") (c_at 0) [])
    ∷ [])
    -- and above a half of L6
    ∷ case (a_to_z_in_l6 ++ span_and_c) (
    step (cut_l6_and_c (codes "c") 5)
    ∷ no_step (cut_l6_and_c (codes "c") 6)
    ∷ step (cut_l6_and_c (codes "b") 6)
    ∷ no_step (cut_l6_and_c (codes "b") 5)
    ∷ [])
    ∷ []
