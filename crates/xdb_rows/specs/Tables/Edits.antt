-- What a flush, a compaction and a load may change in the tables, and how often a file is counted.
use Rattle.std.specs.Prelude.{ℕ, true, false, List, [], ◌∷◌, ◌++◌, take, map, None, Some, codes}
use Rattle.std.specs.List.{range_with_len}
use Rattle.xdb_key.specs.Bounds.{Bounds, successor}
use Rattle.xdb_key.specs.declared.op.Op.TheVariants.{Set, DelSpan}
use Rattle.xdb_meta.specs.Table.{Table}
use Rattle.xdb_edit.specs.Changes.{changes}
use Rattle.xdb_plain.specs.Tables.{TableOps, table_ops}
use Rattle.xdb_plain.specs.declared.act.Act.TheVariants.{Seal, FlushTake, CompactTake, Put, LoadOpen, Cursor, Shut, Show}
use Rattle.xdb_plain.specs.declared.act.ShowWhat.TheVariants as show
use Rattle.xdb_plain.specs.declared.act.Which.{Which}
use Rattle.xdb_plain.specs.declared.act.Which.TheVariants.{At}
use Rattle.xdb_plain.specs.declared.note.HoldNote.TheVariants.{Hold, Release}
use Rattle.xdb_plain.specs.declared.note.Note.{Note}
use Rattle.xdb_plain.specs.declared.reply.Reply.TheVariants as reply
use Rattle.xdb_rows.specs.Judged.{Case, case, case_from, step, no_step}
use Rattle.xdb_rows.specs.Notes.{c1, db, holding, changing, from_to, from_upto, file_table, loaded_table, half_of, put, batch, let_go, table_of_key, put_flush, flushed, excise, load, install, levels_0, levels_0_6}
use Rattle.xdb_rows.specs.Flushes.{change_between_take_and_put, compaction_to_nothing}
use Rattle.xdb_rows.specs.Loads.{a_to_c}
use Rattle.xdb_rows.specs.Excises.{a_to_e, two_halves, left_of_five, right_of_five, whole_table_reaped, cancelled_compaction, a_to_d, excise_beside_hull, b_to_z, a_to_b}

abbrev pub wide : Table
wide = file_table 2 (from_upto (codes "a") (codes "e")) 1 2 91

abbrev pub loaded_a_c : Table
loaded_a_c = loaded_table 1 (from_upto (codes "a") (codes "c")) 3 90

-- L0 holds two tables, and the load's has the lesser number though it is the newer one
abbrev pub two_in_l0 : List Note
two_in_l0 =
    c1 (batch (Set (codes "a") (codes "1") ∷ Set (codes "e") (codes "2") ∷ [])) reply.Done
    ∷ load (codes "l1") (a_to_c ∷ []) None
    ++ db FlushTake (reply.Job 1)
    ∷ put_flush 1 wide
    ∷ install (codes "l1") (changes [] (1 ∷ []) ((0, loaded_a_c) ∷ []))
    ∷ []

-- a span meets both
abbrev pub both_crossed : List Note
both_crossed = two_in_l0 ++ excise (codes "l2") (from_to (codes "b") (codes "c")) ∷ []

abbrev pub cut : List (ℕ × Table) → Note
cut parts = install (codes "l2") (changes ((0, 1) ∷ (0, 2) ∷ []) [] parts)

abbrev pub left_of_wide : ℕ → Table
left_of_wide num = half_of wide num (from_upto (codes "a") (codes "a"))

abbrev pub right_of_wide : ℕ → Table
right_of_wide num = half_of wide num (from_upto (codes "e") (codes "e"))

abbrev pub left_of_loaded : ℕ → Table
left_of_loaded num = half_of loaded_a_c num (from_upto (codes "a") (codes "a"))

abbrev pub right_of_loaded : ℕ → Table
right_of_loaded num = half_of loaded_a_c num (from_upto (codes "c") (codes "c"))

abbrev pub halves_in_order : List Case
halves_in_order =
    case both_crossed (
    -- the tables go in the order of their level, and not by number
    step (cut ((0, left_of_wide 3) ∷ (0, right_of_wide 4) ∷ (0, left_of_loaded 5) ∷ (0, right_of_loaded 6) ∷ []))
    ∷ no_step (cut ((0, left_of_loaded 3) ∷ (0, right_of_loaded 4) ∷ (0, left_of_wide 5) ∷ (0, right_of_wide 6) ∷ []))
    -- each half may be missing, and then the next one has its number
    ∷ step (cut ((0, left_of_wide 3) ∷ (0, right_of_loaded 4) ∷ []))
    ∷ step (cut ((0, right_of_wide 3) ∷ (0, left_of_loaded 4) ∷ []))
    ∷ step (cut [])
    ∷ no_step (cut ((0, left_of_loaded 3) ∷ (0, right_of_wide 4) ∷ []))
    ∷ no_step (cut ((0, left_of_wide 3) ∷ (0, right_of_wide 5) ∷ []))
    -- one on each side at most
    ∷ no_step (cut ((0, left_of_wide 3) ∷ (0, half_of wide 4 (from_to (codes "ab") (codes "b"))) ∷ []))
    ∷ no_step (cut ((0, half_of wide 3 (from_upto (codes "c") (codes "c"))) ∷ (0, right_of_wide 4) ∷ []))
    ∷ [])
    ∷ []

abbrev pub half_fields : List Case
half_fields =
    case both_crossed (
    -- it may end where the span starts, and start where the span ends
    step (cut ((0, half_of wide 3 (from_to (codes "a") (codes "b"))) ∷ (0, half_of wide 4 (from_upto (codes "c") (codes "e"))) ∷ []))
    ∷ no_step (cut ((0, half_of wide 3 (from_upto (codes "a") (codes "b"))) ∷ []))
    ∷ no_step (cut ((0, half_of wide 3 (from_to (successor (codes "b")) (successor (codes "e")))) ∷ []))
    -- it reaches beyond its table on neither side
    ∷ no_step (cut ((0, half_of wide 3 (from_to (codes "A") (codes "b"))) ∷ []))
    ∷ no_step (cut ((0, half_of wide 3 (from_to (codes "e") (successor (successor (codes "e"))))) ∷ []))
    -- it has room for a key
    ∷ no_step (cut ((0, half_of wide 3 (from_to (codes "a") (codes "a"))) ∷ []))
    -- half the size is rounded up
    ∷ no_step (cut ((0, record (left_of_wide 3) { size = 45 }) ∷ []))
    -- its numbers are its table's
    ∷ no_step (cut ((0, record (left_of_wide 3) { seq_lo = 2 }) ∷ []))
    ∷ no_step (cut ((0, record (left_of_loaded 3) { synthetic = 0 }) ∷ []))
    -- it has no file of its own
    ∷ no_step (cut ((0, record (left_of_wide 3) { backing = 3; virt = false }) ∷ []))
    ∷ [])
    ∷ []

-- a half is crossed again
abbrev pub half_crossed : List Note
half_crossed = take 6 two_halves ++ excise (codes "l2") (from_to (codes "da") (codes "e")) ∷ []

abbrev pub cut_half : Table → Note
cut_half part = install (codes "l2") (changes ((0, 3) ∷ []) [] ((0, part) ∷ []))

-- a table of L0 and one of L6 are cut, with these numbers
abbrev pub cut_levels : ℕ → ℕ → Note
cut_levels above below =
    install (codes "l2") (changes ((0, 2) ∷ (6, 1) ∷ []) [] ((0, half_of (a_to_b 2) above (from_upto (codes "a") (codes "a")))
    ∷ (6, half_of b_to_z below (from_upto (codes "x") (codes "z"))) ∷ []))

abbrev pub halves_of_levels : List Case
halves_of_levels =
    -- the tables go level by level
    case (take 7 excise_beside_hull ++ excise (codes "l2") (from_to (codes "b") (codes "c")) ∷ []) (
    step (cut_levels 3 4) ∷ no_step (cut_levels 4 3) ∷ [])
    -- a half of a half stands on the same file, has half of the half's size and the next number
    ∷ case half_crossed (
    step (cut_half (half_of right_of_five 4 (from_upto (codes "d") (codes "d"))))
    ∷ no_step (cut_half (record (half_of right_of_five 4 (from_upto (codes "d") (codes "d"))) { backing = 3 }))
    ∷ no_step (cut_half (record (half_of right_of_five 4 (from_upto (codes "d") (codes "d"))) { size = 60 }))
    ∷ no_step (cut_half (half_of right_of_five 2 (from_upto (codes "d") (codes "d"))))
    ∷ [])
    -- a flush has the number behind those of the halves
    ∷ case (take 6 two_halves ++ c1 (put (codes "x") (codes "1")) reply.Done ∷ db Seal (reply.Group 2) ∷ db FlushTake (reply.Job 2) ∷ []) (
    step (put_flush 2 (table_of_key 4 (codes "x") 6))
    ∷ no_step (put_flush 2 (table_of_key 3 (codes "x") 6))
    ∷ [])
    ∷ []

abbrev pub five_and : List ℕ → List ℕ → List Note
five_and lo hi = take 4 two_halves ++ excise (codes "l1") (from_to lo hi) ∷ []

abbrev pub edges_of_the_span : List Case
edges_of_the_span =
    -- a span that begins behind the last key of a table, or ends at its first, doesn't meet it
    case (five_and (successor (codes "e")) (codes "z")) (
    step (install (codes "l1") (changes [] [] []))
    ∷ no_step (install (codes "l1") (changes ((0, 1) ∷ []) [] []))
    ∷ [])
    ∷ case (five_and (codes "A") (codes "a")) (
    step (install (codes "l1") (changes [] [] []))
    ∷ no_step (install (codes "l1") (changes ((0, 1) ∷ []) [] []))
    ∷ [])
    -- one that begins at the last key does
    ∷ case (five_and (codes "e") (codes "z")) (
    step (install (codes "l1") (changes ((0, 1) ∷ []) [] ((0, half_of a_to_e 2 (from_to (codes "a") (codes "e"))) ∷ [])))
    ∷ no_step (install (codes "l1") (changes [] [] []))
    -- what goes is named by its level
    ∷ no_step (install (codes "l1") (changes ((1, 1) ∷ []) [] []))
    ∷ [])
    ∷ []

abbrev pub opened_with : List TableOps → List Note
opened_with tables = load (codes "l1") tables None

abbrev pub comes_over : Bounds → Note
comes_over range = install (codes "l1") (changes [] (1 ∷ []) ((6, loaded_table 1 range 1 90) ∷ []))

abbrev pub span_and_points : TableOps
span_and_points =
    table_ops (codes "t") (DelSpan (from_to (codes "b") (codes "c")) ∷ Set (codes "a") (codes "1") ∷ Set (codes "c") (codes "3") ∷ [])

abbrev pub loaded_bounds : List Case
loaded_bounds =
    -- from the least key to just behind the greatest
    case (opened_with (a_to_c ∷ [])) (
    step (comes_over (from_upto (codes "a") (codes "c")))
    ∷ no_step (comes_over (from_to (codes "a") (codes "c")))
    ∷ no_step (comes_over (from_to (codes "a") (codes "d")))
    ∷ no_step (comes_over (from_upto (codes "A") (codes "c")))
    ∷ no_step (comes_over (from_upto (codes "b") (codes "c")))
    ∷ [])
    -- to the end of a range delete, which doesn't belong to it
    ∷ case (opened_with (table_ops (codes "t") (DelSpan (from_to (codes "b") (codes "d")) ∷ []) ∷ [])) (
    step (comes_over (from_to (codes "b") (codes "d")))
    ∷ no_step (comes_over (from_upto (codes "b") (codes "d")))
    ∷ [])
    -- over range deletes and points together
    ∷ case (opened_with (table_ops (codes "t") (DelSpan (from_to (codes "a") (codes "c")) ∷ Set (codes "b") (codes "1") ∷ []) ∷ [])) (
    step (comes_over (from_to (codes "a") (codes "c")))
    ∷ no_step (comes_over (from_upto (codes "b") (codes "b")))
    ∷ [])
    ∷ case (opened_with (span_and_points ∷ [])) (
    step (comes_over (from_upto (codes "a") (codes "c")))
    ∷ no_step (comes_over (from_to (codes "b") (codes "c")))
    ∷ no_step (comes_over (from_to (codes "a") (codes "c")))
    ∷ [])
    ∷ []

abbrev pub only : List ℕ → TableOps
only key = table_ops (codes "t2") (Set key (codes "7") ∷ [])

abbrev pub loaded_key : ℕ → List ℕ → ℕ → Table
loaded_key num key seq = loaded_table num (from_upto key key) seq 85

abbrev pub two_come : List ℕ → List (ℕ × Table) → Note
two_come new_backings added = install (codes "l1") (changes [] new_backings added)

abbrev pub both_loaded : Note
both_loaded = two_come (1 ∷ 2 ∷ []) ((6, loaded_key 1 (codes "x") 1) ∷ (6, loaded_key 2 (codes "a") 1) ∷ [])

abbrev pub loaded_numbers : List Case
loaded_numbers =
    -- the numbers go by the order of the tables, and all tables of a load have the same sequence number
    case (opened_with (only (codes "x") ∷ only (codes "a") ∷ [])) (
    step both_loaded
    ∷ no_step (two_come (1 ∷ 2 ∷ []) ((6, loaded_key 1 (codes "a") 1) ∷ (6, loaded_key 2 (codes "x") 1) ∷ []))
    ∷ no_step (two_come (1 ∷ 2 ∷ []) ((6, loaded_key 1 (codes "x") 1) ∷ (6, loaded_key 2 (codes "a") 2) ∷ []))
    -- each comes once, and no other one
    ∷ no_step (two_come (1 ∷ 2 ∷ []) ((6, loaded_key 1 (codes "x") 1) ∷ (6, loaded_key 2 (codes "x") 1) ∷ []))
    ∷ no_step (two_come (1 ∷ 2 ∷ []) ((6, loaded_key 1 (codes "x") 1) ∷ (6, loaded_key 2 (codes "a") 1) ∷ (6, loaded_key 3 (codes "m") 1) ∷ []))
    -- both files are new
    ∷ no_step (two_come (1 ∷ []) ((6, loaded_key 1 (codes "x") 1) ∷ (6, loaded_key 2 (codes "a") 1) ∷ []))
    ∷ no_step (two_come (1 ∷ 2 ∷ 3 ∷ []) ((6, loaded_key 1 (codes "x") 1) ∷ (6, loaded_key 2 (codes "a") 1) ∷ []))
    ∷ [])
    -- two tables take one sequence number
    ∷ case (opened_with (only (codes "x") ∷ only (codes "a") ∷ []) ++ both_loaded ∷ load (codes "l2") (only (codes "m") ∷ []) None) (
    step (install (codes "l2") (changes [] (3 ∷ []) ((6, loaded_key 3 (codes "m") 2) ∷ [])))
    ∷ no_step (install (codes "l2") (changes [] (3 ∷ []) ((6, loaded_key 3 (codes "m") 3) ∷ [])))
    ∷ [])
    -- a load without tables takes none
    ∷ case (excise (codes "l1") (from_to (codes "a") (codes "c")) ∷ install (codes "l1") (changes [] [] []) ∷ load (codes "l2") (only (codes "m") ∷ []) None) (
    step (install (codes "l2") (changes [] (1 ∷ []) ((6, loaded_key 1 (codes "m") 1) ∷ [])))
    ∷ no_step (install (codes "l2") (changes [] (1 ∷ []) ((6, loaded_key 1 (codes "m") 2) ∷ [])))
    ∷ [])
    -- the first numbers are those that were given
    ∷ case_from 7 9 (opened_with (only (codes "m") ∷ [])) (
    step (install (codes "l1") (changes [] (9 ∷ []) ((6, loaded_key 9 (codes "m") 7) ∷ [])))
    ∷ no_step (install (codes "l1") (changes [] (7 ∷ []) ((6, loaded_key 7 (codes "m") 9) ∷ [])))
    ∷ [])
    ∷ []

-- L6 holds a table from b to z
abbrev pub deep : List Note
deep = take 3 excise_beside_hull

abbrev pub comes_to : List ℕ → ℕ → Table → Note
comes_to name level t = install name (changes [] (t.num ∷ []) ((level, t) ∷ []))

abbrev pub left_of_deep : Table
left_of_deep = half_of b_to_z 3 (from_upto (codes "b") (codes "b"))

abbrev pub cuts_deep : List (ℕ × Table) → Note
cuts_deep added = install (codes "l2") (changes ((6, 1) ∷ []) (2 ∷ []) added)

abbrev pub places : List Case
places =
    -- beside it
    case (deep ++ load (codes "l2") (only (codes "a") ∷ []) None) (
    step (comes_to (codes "l2") 6 (loaded_key 2 (codes "a") 2))
    ∷ no_step (comes_to (codes "l2") 5 (loaded_key 2 (codes "a") 2))
    -- where there is no span there are no halves
    ∷ no_step (install (codes "l2") (changes [] (2 ∷ []) ((6, loaded_key 2 (codes "a") 2) ∷ (6, left_of_deep) ∷ [])))
    ∷ [])
    -- just above it
    ∷ case (deep ++ load (codes "l2") (only (codes "c") ∷ []) None) (
    step (comes_to (codes "l2") 5 (loaded_key 2 (codes "c") 2))
    ∷ no_step (comes_to (codes "l2") 6 (loaded_key 2 (codes "c") 2))
    ∷ no_step (comes_to (codes "l2") 4 (loaded_key 2 (codes "c") 2))
    ∷ no_step (comes_to (codes "l2") 0 (loaded_key 2 (codes "c") 2))
    ∷ [])
    -- where the span made room
    ∷ case (deep ++ load (codes "l2") (only (codes "x") ∷ []) (Some (from_to (codes "x") (codes "y")))) (
    step (cuts_deep ((6, loaded_key 2 (codes "x") 2) ∷ (6, left_of_deep) ∷ []))
    ∷ no_step (cuts_deep ((5, loaded_key 2 (codes "x") 2) ∷ (6, left_of_deep) ∷ []))
    -- the records go by level and number
    ∷ no_step (cuts_deep ((6, left_of_deep) ∷ (6, loaded_key 2 (codes "x") 2) ∷ []))
    ∷ [])
    -- above a half that the span leaves
    ∷ case (deep ++ load (codes "l2") (only (codes "b") ∷ []) (Some (from_to (codes "x") (codes "y")))) (
    step (cuts_deep ((5, loaded_key 2 (codes "b") 2) ∷ (6, left_of_deep) ∷ []))
    ∷ no_step (cuts_deep ((6, loaded_key 2 (codes "b") 2) ∷ (6, left_of_deep) ∷ []))
    ∷ [])
    ∷ []

abbrev pub half_a : ℕ → Table
half_a num = half_of a_to_d num (from_upto (codes "a") (codes "a"))

abbrev pub places_and_hulls : List Case
places_and_hulls =
    -- a running compaction's hull, which the load cancels itself
    case (take 5 cancelled_compaction ++ load (codes "l1") (only (codes "b") ∷ []) (Some (from_to (codes "b") (codes "c")))) (
    step (install (codes "l1") (changes ((0, 1) ∷ []) (66 ∷ []) ((0, loaded_key 66 (codes "b") 3) ∷ (0, half_a 67) ∷ [])))
    ∷ no_step (install (codes "l1") (changes ((0, 1) ∷ []) (66 ∷ []) ((0, half_a 67) ∷ (6, loaded_key 66 (codes "b") 3) ∷ [])))
    ∷ [])
    -- beside the hull
    ∷ case (take 5 cancelled_compaction ++ load (codes "l1") (only (codes "e") ∷ []) None) (
    step (comes_to (codes "l1") 6 (loaded_key 66 (codes "e") 3))
    ∷ no_step (comes_to (codes "l1") 0 (loaded_key 66 (codes "e") 3))
    ∷ [])
    -- one that was cancelled runs until it ends
    ∷ case (take 7 cancelled_compaction ++ load (codes "l2") (only (codes "b") ∷ []) None) (
    step (comes_to (codes "l2") 0 (loaded_key 68 (codes "b") 3))
    ∷ no_step (comes_to (codes "l2") 6 (loaded_key 68 (codes "b") 3))
    ∷ [])
    ∷ case (take 8 cancelled_compaction ++ load (codes "l2") (only (codes "b") ∷ []) None) (
    step (comes_to (codes "l2") 6 (loaded_key 68 (codes "b") 3))
    ∷ no_step (comes_to (codes "l2") 0 (loaded_key 68 (codes "b") 3))
    ∷ [])
    ∷ []

abbrev pub flush_put : List ℕ → List (ℕ × Table) → Note
flush_put new_backings added = changing (db (Put 1) reply.Installed) (changes [] new_backings added)

abbrev pub table_1 : Table
table_1 = table_of_key 1 (codes "a") 1

abbrev pub flushes : List Case
flushes =
    case (take 3 change_between_take_and_put) (
    step (flush_put (1 ∷ []) ((0, table_1) ∷ []))
    -- one table
    ∷ no_step (flush_put (1 ∷ []) ((0, table_1) ∷ (0, table_of_key 2 (codes "b") 1) ∷ []))
    -- in a file of its own, which is new
    ∷ no_step (flush_put (1 ∷ []) ((0, record table_1 { backing = 9; virt = true }) ∷ []))
    ∷ no_step (flush_put (1 ∷ []) ((0, table_of_key 2 (codes "a") 1) ∷ []))
    ∷ no_step (flush_put [] ((0, table_1) ∷ []))
    ∷ no_step (flush_put (2 ∷ []) ((0, table_1) ∷ []))
    ∷ no_step (flush_put (1 ∷ 2 ∷ []) ((0, table_1) ∷ []))
    -- its fields are those of a table
    ∷ no_step (flush_put (1 ∷ []) ((0, record table_1 { seq_lo = 2 }) ∷ []))
    ∷ no_step (flush_put (1 ∷ []) ((0, record table_1 { size = 0 }) ∷ []))
    ∷ no_step (flush_put (1 ∷ []) ((0, record table_1 { hi = codes "a" }) ∷ []))
    ∷ [])
    ∷ []

abbrev pub flushes_beside_others : List Case
flushes_beside_others =
    -- what is installed has an edit, and nothing else has one
    case (take 3 change_between_take_and_put) (
    no_step (db (Put 1) reply.Installed)
    ∷ no_step (changing (db (Put 1) reply.NotYet) (changes [] (1 ∷ []) ((0, table_1) ∷ [])))
    ∷ no_step (changing (db (Put 1) reply.Memory) (changes [] [] []))
    ∷ no_step (changing (c1 (put (codes "b") (codes "1")) reply.Done) (changes [] [] []))
    ∷ no_step (changing (excise (codes "l1") (from_to (codes "x") (codes "y"))) (changes [] [] []))
    ∷ [])
    -- a flush removes nothing
    ∷ case (take 7 compaction_to_nothing) (
    step (put_flush 2 (table_of_key 2 (codes "a") 2))
    ∷ no_step (changing (db (Put 2) reply.Installed) (changes ((0, 1) ∷ []) (2 ∷ []) ((0, table_of_key 2 (codes "a") 2) ∷ [])))
    ∷ [])
    -- its number is that of its take
    ∷ case (take 3 change_between_take_and_put ++ c1 (LoadOpen (codes "l1") (only (codes "x") ∷ []) None) reply.Opening ∷ []) (
    step (put_flush 1 table_1)
    ∷ no_step (put_flush 1 (table_of_key 2 (codes "a") 1))
    ∷ no_step (put_flush 1 (table_of_key 3 (codes "a") 1))
    ∷ [])
    ∷ []

-- a compaction of one table from a to d has the numbers 2 to 65
abbrev pub compacting : List Note
compacting = take 5 cancelled_compaction

abbrev pub compaction_put : List (ℕ × ℕ) → List ℕ → List (ℕ × Table) → Note
compaction_put removed new_backings added =
    holding (changing (db (Put 2) reply.Installed) (changes removed new_backings added)) (Release 1 ∷ [])

abbrev pub outputs_put : List ℕ → List (ℕ × Table) → Note
outputs_put new_backings added = compaction_put ((0, 1) ∷ []) new_backings added

abbrev pub output : ℕ → Bounds → ℕ × Table
output num range = (1, file_table num range 1 2 90)

abbrev pub output_a : ℕ → ℕ × Table
output_a num = output num (from_upto (codes "a") (codes "a"))

abbrev pub output_d : ℕ → ℕ × Table
output_d num = output num (from_upto (codes "d") (codes "d"))

abbrev pub outputs : List Case
outputs =
    case compacting (
    step (outputs_put (2 ∷ []) (output 2 (from_upto (codes "a") (codes "d")) ∷ []))
    ∷ step (outputs_put (2 ∷ 3 ∷ []) (output_a 2 ∷ output_d 3 ∷ []))
    ∷ step (outputs_put [] [])
    -- the first of its numbers, each once, with a new file each
    ∷ no_step (outputs_put (2 ∷ 4 ∷ []) (output_a 2 ∷ output_d 4 ∷ []))
    ∷ no_step (outputs_put (2 ∷ 3 ∷ []) (output_a 2 ∷ output_d 4 ∷ []))
    ∷ no_step (outputs_put (2 ∷ []) (output_a 2 ∷ output_d 3 ∷ []))
    ∷ no_step (outputs_put (2 ∷ 3 ∷ 4 ∷ []) (output_a 2 ∷ output_d 3 ∷ []))
    -- within the hull
    ∷ no_step (outputs_put (2 ∷ []) (output 2 (from_upto (codes "A") (codes "d")) ∷ []))
    ∷ no_step (outputs_put (2 ∷ []) (output 2 (from_to (codes "a") (successor (successor (codes "d")))) ∷ []))
    -- in a file of its own, in the next level
    ∷ no_step (outputs_put (2 ∷ []) ((1, record (file_table 2 (from_upto (codes "a") (codes "d")) 1 2 90) { backing = 9; virt = true }) ∷ []))
    ∷ no_step (outputs_put (2 ∷ []) ((2, file_table 2 (from_upto (codes "a") (codes "d")) 1 2 90) ∷ []))
    -- its inputs go, and no other table
    ∷ no_step (compaction_put ((0, 1) ∷ (0, 2) ∷ []) [] [])
    ∷ no_step (compaction_put [] [] [])
    ∷ no_step (holding (db (Put 2) reply.Installed) (Release 1 ∷ []))
    ∷ [])
    ∷ []

abbrev pub many_outputs : ℕ → Note
many_outputs count = outputs_put (range_with_len 2 count) (map output_a (range_with_len 2 count))

-- there are 64 at most
abbrev pub most_outputs : List Case
most_outputs = case compacting (step (many_outputs 64) ∷ no_step (many_outputs 65) ∷ []) ∷ []

-- a table stands in L1, in the file 2, and one in L0, in the file 66
abbrev pub in_l0_and_l1 : List Note
in_l0_and_l1 =
    compacting
    ++ outputs_put (2 ∷ []) (output 2 (from_upto (codes "a") (codes "d")) ∷ [])
    ∷ c1 (put (codes "b") (codes "3")) reply.Done
    ∷ flushed 2 3 (table_of_key 66 (codes "b") 3)

abbrev pub second_take : Which → Note
second_take which = holding (db (CompactTake which) (reply.Job 4)) (Hold 1 3 ∷ [])

abbrev pub second_put : List (ℕ × ℕ) → ℕ → Note
second_put removed level =
    holding (changing (db (Put 4) reply.Installed)
    (changes removed (67 ∷ []) ((level, file_table 67 (from_upto (codes "a") (codes "d")) 1 3 90) ∷ []))) (Release 1 ∷ [])

abbrev pub outputs_of_levels : List Case
outputs_of_levels =
    -- the tables of the next level that it meets are inputs too
    case (in_l0_and_l1 ++ second_take (At 0 (from_to (codes "b") (codes "c"))) ∷ []) (
    step (second_put ((0, 66) ∷ (1, 2) ∷ []) 1)
    ∷ no_step (second_put ((0, 66) ∷ []) 1)
    ∷ no_step (second_put ((1, 2) ∷ []) 1)
    ∷ no_step (second_put ((0, 66) ∷ (1, 2) ∷ []) 2)
    ∷ [])
    -- a compaction of L1 writes to L2, and leaves L0 alone
    ∷ case (in_l0_and_l1 ++ second_take (At 1 (from_to (codes "b") (codes "c"))) ∷ []) (
    step (second_put ((1, 2) ∷ []) 2)
    ∷ no_step (second_put ((1, 2) ∷ []) 1)
    ∷ no_step (second_put ((0, 66) ∷ (1, 2) ∷ []) 2)
    ∷ [])
    ∷ []

abbrev pub cursor : List ℕ → ℕ → ℕ → Note
cursor name hold version = holding (c1 (Cursor name (from_to (codes "a") (codes "z")) None) reply.CursorOn) (Hold hold version ∷ [])

-- two cursors hold the version before the current one
abbrev pub held_twice : List Note
held_twice =
    c1 (put (codes "a") (codes "1")) reply.Done
    ∷ flushed 1 1 table_1
    ++ cursor (codes "k") 1 1
    ∷ cursor (codes "m") 2 1
    ∷ c1 (put (codes "b") (codes "1")) reply.Done
    ∷ flushed 2 2 (table_of_key 2 (codes "b") 2)

abbrev pub counted : List (ℕ × ℕ) → Note
counted counts = db (Show show.Counts) (reply.Counts counts)

abbrev pub counts_of_versions : List Case
counts_of_versions =
    -- the current version is held, and counts once
    case (take 6 held_twice) (step (counted ((1, 1) ∷ [])) ∷ no_step (counted ((1, 2) ∷ [])) ∷ [])
    -- a version that is held twice counts once beside the current one
    ∷ case held_twice (
    step (counted ((1, 2) ∷ (2, 1) ∷ []))
    ∷ no_step (counted ((1, 1) ∷ (2, 1) ∷ []))
    ∷ no_step (counted ((1, 3) ∷ (2, 1) ∷ []))
    ∷ no_step (counted ((2, 1) ∷ (1, 2) ∷ []))
    ∷ [])
    -- as long as one of them holds it
    ∷ case (held_twice ++ let_go (Shut (codes "k")) reply.Shut 1 ∷ []) (
    step (counted ((1, 2) ∷ (2, 1) ∷ [])) ∷ no_step (counted ((1, 1) ∷ (2, 1) ∷ [])) ∷ [])
    ∷ case (held_twice ++ let_go (Shut (codes "k")) reply.Shut 1 ∷ let_go (Shut (codes "m")) reply.Shut 2 ∷ []) (
    step (counted ((1, 1) ∷ (2, 1) ∷ [])) ∷ no_step (counted ((1, 2) ∷ (2, 1) ∷ [])) ∷ [])
    ∷ []

abbrev pub halves_come : Note
halves_come = install (codes "l1") (changes ((0, 1) ∷ []) [] ((0, left_of_five) ∷ (0, right_of_five) ∷ []))

abbrev pub counts_of_halves : List Case
counts_of_halves =
    -- two halves in one version, and their table in the one before
    case (take 4 two_halves ++ cursor (codes "k") 1 1 ∷ excise (codes "l1") (from_to (codes "b") (codes "d")) ∷ halves_come ∷ []) (
    step (counted ((1, 3) ∷ [])) ∷ no_step (counted ((1, 2) ∷ [])) ∷ [])
    -- an install that changes no table leads to a version of its own
    ∷ case (take 6 held_twice ++ excise (codes "l1") (from_to (codes "x") (codes "y")) ∷ install (codes "l1") (changes [] [] []) ∷ []) (
    step (counted ((1, 2) ∷ [])) ∷ no_step (counted ((1, 1) ∷ [])) ∷ [])
    -- what nothing stands on isn't shown
    ∷ case (take 6 whole_table_reaped) (step (counted []) ∷ no_step (counted ((1, 0) ∷ [])) ∷ [])
    ∷ []

abbrev pub order_of_levels : List Case
order_of_levels =
    -- L0 goes by sequence numbers, before table numbers
    case two_in_l0 (
    step (db (Show show.Levels) (reply.Levels (levels_0 (wide ∷ loaded_a_c ∷ []))))
    ∷ no_step (db (Show show.Levels) (reply.Levels (levels_0 (loaded_a_c ∷ wide ∷ []))))
    ∷ [])
    -- and by table numbers where those are the same
    ∷ case (both_crossed ++ cut ((0, left_of_wide 3) ∷ (0, right_of_wide 4) ∷ (0, left_of_loaded 5) ∷ (0, right_of_loaded 6) ∷ []) ∷ []) (
    step (db (Show show.Levels) (reply.Levels (levels_0 (left_of_wide 3 ∷ right_of_wide 4 ∷ left_of_loaded 5 ∷ right_of_loaded 6 ∷ []))))
    ∷ no_step (db (Show show.Levels) (reply.Levels (levels_0 (left_of_wide 3 ∷ left_of_loaded 5 ∷ right_of_wide 4 ∷ right_of_loaded 6 ∷ []))))
    ∷ [])
    -- every other level goes by where its tables begin
    ∷ case (opened_with (only (codes "x") ∷ only (codes "a") ∷ []) ++ both_loaded ∷ []) (
    step (db (Show show.Levels) (reply.Levels (levels_0_6 [] (loaded_key 2 (codes "a") 1 ∷ loaded_key 1 (codes "x") 1 ∷ []))))
    ∷ no_step (db (Show show.Levels) (reply.Levels (levels_0_6 [] (loaded_key 1 (codes "x") 1 ∷ loaded_key 2 (codes "a") 1 ∷ []))))
    ∷ [])
    ∷ []
