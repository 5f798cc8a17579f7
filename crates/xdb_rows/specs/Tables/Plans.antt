-- Which plan a compaction has, seen from what it takes and puts.
use Rattle.std.specs.Prelude.{ℕ, ◌+◌, ◌-◌, ◌*◌, ◌^◌, List, [], ◌∷◌, ◌++◌, None, codes}
use Rattle.xdb_key.specs.Bounds.{Bounds, successor}
use Rattle.xdb_meta.specs.Table.{Table}
use Rattle.xdb_edit.specs.Changes.{changes}
use Rattle.xdb_plain.specs.Tables.{TableOps}
use Rattle.xdb_plain.specs.declared.act.Act.TheVariants.{CompactTake, Build}
use Rattle.xdb_plain.specs.declared.act.Which.TheVariants.{Auto, At}
use Rattle.xdb_plain.specs.declared.note.HoldNote.TheVariants.{Release}
use Rattle.xdb_plain.specs.declared.note.Note.{Note}
use Rattle.xdb_plain.specs.declared.reply.Reply.TheVariants as reply
use Rattle.xdb_rows.specs.Judged.{Case, case, step, no_step}
use Rattle.xdb_rows.specs.Notes.{db, holding, from_to, from_upto, file_table, loaded_table, flushed, install, load}
use Rattle.xdb_rows.specs.Tables.Small.{a_to_z, stored, table_with, loaded_key}
use Rattle.xdb_rows.specs.Tables.Compactions.{one, compact, compact_at, compact_auto, put_compaction, running, a_to_d}

-- a flush of a group puts a table
abbrev pub flush_of : ℕ → Table → List Note
flush_of n t = stored (codes "a" ∷ []) ∷ flushed n n t

abbrev pub sized : Bounds → ℕ → ℕ → Table
sized range num size = file_table num range num num size

abbrev pub of_range : Bounds → ℕ → Table
of_range range num = sized range num 90

abbrev pub a_to_m_of : ℕ → Table
a_to_m_of num = of_range (from_upto (codes "a") (codes "m")) num

abbrev pub a_to_g : Bounds
a_to_g = from_upto (codes "a") (codes "g")

abbrev pub auto_nothing : Note
auto_nothing = db (CompactTake Auto) reply.Nothing

-- tables a to c, c to e, e to g and x in L0: the first three meet one after the other
abbrev pub chain : List Note
chain =
    flush_of 1 (of_range (from_upto (codes "a") (codes "c")) 1)
    ++ flush_of 2 (of_range (from_upto (codes "c") (codes "e")) 2)
    ++ flush_of 3 (of_range (from_upto (codes "e") (codes "g")) 3)
    ++ flush_of 4 (of_range (one (codes "x")) 4)

-- the inputs are all that the hull meets as it grows, and no more
abbrev pub inputs_of_chains : List Case
inputs_of_chains =
    case (chain ++ compact (from_to (codes "a") (codes "b")) 5 4 ∷ []) (
    step (put_compaction 5 ((0, 1) ∷ (0, 2) ∷ (0, 3) ∷ []) (5 ∷ []) ((1, of_range a_to_g 5) ∷ []))
    ∷ no_step (put_compaction 5 ((0, 1) ∷ []) (5 ∷ []) ((1, of_range (from_upto (codes "a") (codes "c")) 5)
    ∷ []))
    ∷ no_step (put_compaction 5 ((0, 1)
    ∷ (0, 2) ∷ []) (5 ∷ []) ((1, of_range (from_upto (codes "a") (codes "e")) 5) ∷ []))
    ∷ no_step (put_compaction 5 ((0, 1) ∷ (0, 2) ∷ (0, 3) ∷ (0, 4) ∷ []) (5 ∷ []) ((1, of_range a_to_g 5) ∷ []))
    -- the hull ends where the last of them does
    ∷ no_step (put_compaction 5 ((0, 1) ∷ (0, 2)
    ∷ (0, 3) ∷ []) (5 ∷ []) ((1, of_range (from_upto (codes "a") (codes "h")) 5) ∷ []))
    ∷ [])
    -- tables that only touch are apart
    ∷ case (flush_of 1 (of_range (from_to (codes "a") (codes "c")) 1)
    ++ flush_of 2 (of_range (from_to (codes "c") (codes "e")) 2)
    ++ compact (from_to (codes "a") (codes "b")) 3 2 ∷ []) (
    step (put_compaction 3 ((0, 1) ∷ []) (3 ∷ []) ((1, of_range (from_to (codes "a") (codes "c")) 3) ∷ []))
    ∷ no_step (put_compaction 3 ((0, 1)
    ∷ (0, 2) ∷ []) (3 ∷ []) ((1, of_range (from_to (codes "a") (codes "c")) 3) ∷ []))
    ∷ [])
    ∷ []

-- a table in L1 from a to m, and later b and k in L0
abbrev pub wide_below : List Note
wide_below =
    flush_of 1 (a_to_m_of 1)
    ++ compact a_to_z 2 1
    ∷ put_compaction 2 ((0, 1) ∷ []) (2 ∷ []) ((1, of_range (from_upto (codes "a") (codes "m")) 2) ∷ [])
    ∷ stored (codes "b" ∷ []) ∷ flushed 2 3 (of_range (one (codes "b")) 66)
    ++ stored (codes "k" ∷ []) ∷ flushed 3 4 (of_range (one (codes "k")) 67)

-- the tables of the next level widen the hull as well
abbrev pub inputs_of_two_levels : List Case
inputs_of_two_levels =
    case (wide_below ++ compact (one (codes "b")) 5 4 ∷ []) (
    step (put_compaction 5 ((0, 66) ∷ (0, 67)
    ∷ (1, 2) ∷ []) (68 ∷ []) ((1, of_range (from_upto (codes "a") (codes "m")) 68) ∷ []))
    ∷ no_step (put_compaction 5 ((0, 66)
    ∷ (1, 2) ∷ []) (68 ∷ []) ((1, of_range (from_upto (codes "a") (codes "m")) 68) ∷ []))
    ∷ no_step (put_compaction 5 ((0, 66) ∷ []) (68 ∷ []) ((1, of_range (one (codes "b")) 68) ∷ []))
    ∷ [])
    -- a level is compacted without the one above it
    ∷ case (wide_below ++ compact_at 1 (one (codes "b")) 5 4 ∷ []) (
    step (put_compaction 5 ((1, 2) ∷ []) (68 ∷ []) ((2, of_range (from_upto (codes "a") (codes "m")) 68) ∷ []))
    ∷ no_step (put_compaction 5 ((0, 66) ∷ (0, 67)
    ∷ (1, 2) ∷ []) (68 ∷ []) ((2, of_range (from_upto (codes "a") (codes "m")) 68) ∷ []))
    ∷ no_step (put_compaction 5 ((1, 2) ∷ []) (68 ∷ []) ((1, of_range (from_upto (codes "a") (codes "m")) 68)
    ∷ []))
    ∷ [])
    ∷ []

abbrev pub nothing_in : ℕ → Bounds → Note
nothing_in level range = db (CompactTake (At level range)) reply.Nothing

-- a table of a in L6, and one in L5
abbrev pub a_in_l5_and_l6 : List Note
a_in_l5_and_l6 =
    load (codes "l1") (table_with (codes "t") (codes "a" ∷ []) ∷ []) None
    ++ install (codes "l1") (changes [] (1 ∷ []) ((6, loaded_key 1 (codes "a") 1) ∷ []))
    ∷ load (codes "l2") (table_with (codes "t") (codes "a" ∷ []) ∷ []) None
    ++ install (codes "l2") (changes [] (2 ∷ []) ((5, loaded_key 2 (codes "a") 2) ∷ []))
    ∷ []

-- where there is a plan
abbrev pub plans_at_levels : List Case
plans_at_levels =
    -- L5 goes to L6, and L6 nowhere
    case a_in_l5_and_l6 (
    step (compact_at 5 a_to_z 1 2)
    ∷ no_step (nothing_in 5 a_to_z)
    ∷ step (nothing_in 6 a_to_z)
    ∷ no_step (compact_at 6 a_to_z 1 2)
    -- a level without tables in the range has none, and nor has one that they only touch
    ∷ step (nothing_in 4 a_to_z)
    ∷ no_step (compact_at 4 a_to_z 1 2)
    ∷ step (nothing_in 5 (from_to (successor (codes "a")) (codes "z")))
    ∷ no_step (compact_at 5 (from_to (successor (codes "a")) (codes "z")) 1 2)
    ∷ step (nothing_in 5 (from_to (codes "A") (codes "a")))
    ∷ step (compact_at 5 (from_upto (codes "A") (codes "a")) 1 2)
    ∷ [])
    ∷ case (a_in_l5_and_l6 ++ compact_at 5 a_to_z 1 2 ∷ []) (
    step (put_compaction 1 ((5, 2) ∷ (6, 1) ∷ []) (3 ∷ []) ((6, loaded_key 3 (codes "a") 2) ∷ []))
    ∷ no_step (put_compaction 1 ((5, 2) ∷ []) (3 ∷ []) ((6, loaded_key 3 (codes "a") 2) ∷ []))
    ∷ [])
    ∷ []

-- p is compacted, and later there is a table from a to q beside it, or one from a to p that ends before it
abbrev pub beside_p : Bounds → List Note
beside_p range =
    flush_of 1 (of_range (one (codes "p")) 1) ++ compact a_to_z 2 1
    ∷ stored (codes "a" ∷ []) ∷ flushed 2 3 (of_range range 66)

-- no plan where the hull meets that of a running compaction, though the range doesn't
abbrev pub plans_beside_running : List Case
plans_beside_running =
    case (beside_p (from_upto (codes "a") (codes "q"))) (
    step (nothing_in 0 (from_to (codes "a") (codes "b")))
    ∷ no_step (compact (from_to (codes "a") (codes "b")) 4 2) ∷ [])
    ∷ case (beside_p (from_to (codes "a") (codes "p"))) (
    step (compact (from_to (codes "a") (codes "b")) 4 2)
    ∷ no_step (nothing_in 0 (from_to (codes "a") (codes "b"))) ∷ [])
    ∷ []

-- Tables of a and d in L0 by flushes, and of other keys by a load that was opened before them and installed while
-- a compaction kept it in L0: they have the least file numbers and the greatest sequence number.
abbrev pub later_with_least_numbers : List TableOps → List ℕ → List (ℕ × Table) → ℕ → List Note
later_with_least_numbers tables files added num =
    load (codes "l1") tables None
    ++ stored (codes "a" ∷ []) ∷ flushed 1 1 (file_table num (one (codes "a")) 1 1 85)
    ++ stored (codes "d" ∷ []) ∷ flushed 2 2 (file_table (num + 1) (one (codes "d")) 2 2 85)
    ++ compact a_to_z 3 2
    ∷ install (codes "l1") (changes [] files added)
    ∷ holding (db (Build 3) reply.Fault) (Release 3 ∷ [])
    ∷ []

abbrev pub three_in_l0 : List Note
three_in_l0 =
    later_with_least_numbers (table_with (codes "b") (codes "b" ∷ []) ∷ []) (1 ∷ [])
    ((0, loaded_key 1 (codes "b") 3) ∷ []) 2

abbrev pub four_in_l0 : List Note
four_in_l0 =
    later_with_least_numbers (table_with (codes "b") (codes "b" ∷ [])
    ∷ table_with (codes "c") (codes "c" ∷ []) ∷ [])
    (1 ∷ 2 ∷ []) ((0, loaded_key 1 (codes "b") 3) ∷ (0, loaded_key 2 (codes "c") 3) ∷ []) 3

-- a compaction of one table of L0, with the first file numbers behind those of the one that failed
abbrev pub put_one : ℕ → ℕ → List ℕ → ℕ → Note
put_one job input key num =
    put_compaction job ((0, input) ∷ []) (num ∷ []) ((1, file_table num (one key) 1 1 85) ∷ [])

-- L0 is due with four tables, and its tables are tried by their sequence numbers
abbrev pub picks_of_l0 : List Case
picks_of_l0 =
    case three_in_l0 (step auto_nothing ∷ no_step (compact_auto 4 3) ∷ [])
    ∷ case four_in_l0 (step (compact_auto 4 3) ∷ no_step auto_nothing ∷ [])
    ∷ case (four_in_l0 ++ compact_auto 4 3 ∷ []) (
    step (put_one 4 3 (codes "a") 69)
    ∷ no_step (put_one 4 1 (codes "b") 69)
    ∷ no_step (put_one 4 2 (codes "c") 69)
    ∷ [])
    -- they are named by their file numbers
    ∷ case (four_in_l0 ++ compact (from_to (codes "a") (codes "e")) 4 3 ∷ []) (
    step (put_compaction 4 ((0, 1) ∷ (0, 2) ∷ (0, 3)
    ∷ (0, 4) ∷ []) (69 ∷ []) ((1, file_table 69 (from_upto (codes "a") (codes "d")) 1 3 90) ∷ []))
    ∷ no_step (put_compaction 4 ((0, 3) ∷ (0, 4) ∷ (0, 1)
    ∷ (0, 2) ∷ []) (69 ∷ []) ((1, file_table 69 (from_upto (codes "a") (codes "d")) 1 3 90) ∷ []))
    ∷ [])
    ∷ []

-- where a running compaction is over the first, the next is tried
abbrev pub picks_beside_running : List Case
picks_beside_running =
    case (four_in_l0 ++ compact (one (codes "a")) 4 3 ∷ compact_auto 5 3 ∷ []) (
    step (put_one 5 4 (codes "d") 133) ∷ no_step (put_one 5 1 (codes "b") 133) ∷ [])
    ∷ case (four_in_l0 ++ compact (from_upto (codes "a") (codes "d")) 4 3 ∷ []) (step auto_nothing
    ∷ no_step (compact_auto 5 3) ∷ [])
    ∷ []

-- a table of a compaction of L0, with a size, in L1
abbrev pub in_l1 : List (ℕ × Table) → List ℕ → List Note
in_l1 outputs files = running ++ put_compaction 2 ((0, 1) ∷ []) files outputs ∷ []

abbrev pub one_in_l1 : ℕ → List Note
one_in_l1 size = in_l1 ((1, sized a_to_d 2 size) ∷ []) (2 ∷ [])

abbrev pub two_in_l1 : ℕ → ℕ → List Note
two_in_l1 size other =
    in_l1 ((1, sized (one (codes "a")) 2 size) ∷ (1, sized (one (codes "d")) 3 other) ∷ []) (2 ∷ 3 ∷ [])

-- and one in L2
abbrev pub one_in_l2 : ℕ → List Note
one_in_l2 size =
    one_in_l1 90 ++ compact_at 1 a_to_z 3 2
    ∷ put_compaction 3 ((1, 2) ∷ []) (66 ∷ []) ((2, sized a_to_d 66 size) ∷ []) ∷ []

-- L1 is due where its sizes pass 65,536, and L2 where they pass eight times that
abbrev pub picks_by_sizes : List Case
picks_by_sizes =
    case (one_in_l1 65536) (step auto_nothing ∷ no_step (compact_auto 3 2) ∷ [])
    ∷ case (one_in_l1 65537) (step (compact_auto 3 2) ∷ no_step auto_nothing ∷ [])
    ∷ case (two_in_l1 32768 32768) (step auto_nothing ∷ no_step (compact_auto 3 2) ∷ [])
    ∷ case (two_in_l1 32768 32769) (step (compact_auto 3 2) ∷ no_step auto_nothing ∷ [])
    ∷ case (one_in_l2 (65536 * 8)) (step auto_nothing ∷ no_step (compact_auto 4 3) ∷ [])
    ∷ case (one_in_l2 (65536 * 8 + 1)) (step (compact_auto 4 3) ∷ no_step auto_nothing ∷ [])
    ∷ []

abbrev pub x_and_b : List TableOps
x_and_b = table_with (codes "t") (codes "x" ∷ []) ∷ table_with (codes "u") (codes "b" ∷ []) ∷ []

abbrev pub key_sized : ℕ → List ℕ → ℕ → ℕ → Table
key_sized num key seq size = loaded_table num (one key) seq size

-- tables of x and b in L6, with a size, and above them in L5, with two sizes
abbrev pub x_and_b_in_l5 : ℕ → ℕ → ℕ → List Note
x_and_b_in_l5 size_l6 size_x size_b =
    load (codes "l1") x_and_b None
    ++ install (codes "l1") (changes [] (1 ∷ 2 ∷ []) ((6, key_sized 1 (codes "x") 1 size_l6)
    ∷ (6, key_sized 2 (codes "b") 1 size_l6) ∷ []))
    ∷ load (codes "l2") x_and_b None
    ++ install (codes "l2") (changes [] (3 ∷ 4 ∷ []) ((5, key_sized 3 (codes "x") 2 size_x)
    ∷ (5, key_sized 4 (codes "b") 2 size_b) ∷ []))
    ∷ []

-- of the levels below L0 the tables are tried by their numbers; L5 is the last level that is due
abbrev pub picks_of_l5 : List Case
picks_of_l5 =
    case (x_and_b_in_l5 90 (65536 * 8 ^ 4) 1 ++ compact_auto 1 2 ∷ []) (
    step (put_compaction 1 ((5, 3) ∷ (6, 1) ∷ []) (5 ∷ []) ((6, key_sized 5 (codes "x") 2 90) ∷ []))
    ∷ no_step (put_compaction 1 ((5, 4) ∷ (6, 2) ∷ []) (5 ∷ []) ((6, key_sized 5 (codes "b") 2 90) ∷ []))
    ∷ [])
    ∷ case (x_and_b_in_l5 90 (65536 * 8 ^ 4 - 1) 1) (step auto_nothing ∷ no_step (compact_auto 1 2) ∷ [])
    ∷ case (x_and_b_in_l5 (2 ^ 50) 90 90) (step auto_nothing ∷ no_step (compact_auto 1 2) ∷ [])
    -- the next where the first is being compacted
    ∷ case (x_and_b_in_l5 90 (65536 * 8 ^ 4) 1 ++ compact_at 5 (one (codes "x")) 1 2 ∷ compact_auto 2 2 ∷ []) (
    step (put_compaction 2 ((5, 4) ∷ (6, 2) ∷ []) (69 ∷ []) ((6, key_sized 69 (codes "b") 2 90) ∷ []))
    ∷ no_step (put_compaction 2 ((5, 3) ∷ (6, 1) ∷ []) (69 ∷ []) ((6, key_sized 69 (codes "x") 2 90) ∷ []))
    ∷ [])
    ∷ []

-- tables of x and b in L5, which is due, and a table of h in L1, of a size
abbrev pub l1_above_l5 : ℕ → List Note
l1_above_l5 size =
    x_and_b_in_l5 90 (65536 * 8 ^ 4) 1
    ++ stored (codes "h" ∷ []) ∷ flushed 1 1 (file_table 5 (one (codes "h")) 3 3 85)
    ++ compact (one (codes "h")) 2 3
    ∷ put_compaction 2 ((0, 5) ∷ []) (6 ∷ []) ((1, file_table 6 (one (codes "h")) 3 3 size) ∷ [])
    ∷ compact_auto 3 4
    ∷ []

-- the levels are tried from the first on, each that is due
abbrev pub picks_of_levels : List Case
picks_of_levels =
    case (l1_above_l5 65537) (
    step (put_compaction 3 ((1, 6) ∷ []) (70 ∷ []) ((2, file_table 70 (one (codes "h")) 3 3 85) ∷ []))
    ∷ no_step (put_compaction 3 ((5, 3) ∷ (6, 1) ∷ []) (70 ∷ []) ((6, key_sized 70 (codes "x") 2 90) ∷ []))
    ∷ [])
    ∷ case (l1_above_l5 65536) (
    step (put_compaction 3 ((5, 3) ∷ (6, 1) ∷ []) (70 ∷ []) ((6, key_sized 70 (codes "x") 2 90) ∷ []))
    ∷ no_step (put_compaction 3 ((1, 6) ∷ []) (70 ∷ []) ((2, file_table 70 (one (codes "h")) 3 3 85) ∷ []))
    ∷ [])
    ∷ []
