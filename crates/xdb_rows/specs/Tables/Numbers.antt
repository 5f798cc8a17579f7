-- How many sequence numbers and file numbers there are, and who takes or keeps back how many: each at the last
-- number that serves, and at the one behind it.
use Rattle.std.specs.Prelude.{ℕ, ◌+◌, ◌-◌, ◌^◌, List, [], ◌∷◌, ◌++◌, None, Some, codes}
use Rattle.xdb_edit.specs.Changes.{changes}
use Rattle.xdb_meta.specs.Table.{Table}
use Rattle.xdb_plain.specs.Tables.{TableOps}
use Rattle.xdb_plain.specs.declared.act.Act.TheVariants.{Seal, FlushTake, Build, Install}
use Rattle.xdb_plain.specs.declared.note.HoldNote.TheVariants.{Hold}
use Rattle.xdb_plain.specs.declared.note.Note.{Note}
use Rattle.xdb_plain.specs.declared.reply.Reply.TheVariants as reply
use Rattle.xdb_rows.specs.Judged.{Case, case_from, step, no_step}
use Rattle.xdb_rows.specs.Notes.{c1, db, holding, from_to, from_upto, file_table, half_of, put, excise, install, load, flushed, compact_l0}
use Rattle.xdb_rows.specs.Tables.Small.{a_to_m, m_to_t, a_to_z, sets, stored, table_with, opens, opens_span, loaded_key}

-- one more than the last number
abbrev pub end : ℕ
end = 2 ^ 56

abbrev pub one_key : List (List ℕ)
one_key = codes "a" ∷ []

abbrev pub two_keys : List (List ℕ)
two_keys = codes "a" ∷ codes "b" ∷ []

abbrev pub table_x : TableOps
table_x = table_with (codes "t") (codes "x" ∷ [])

abbrev pub table_y : TableOps
table_y = table_with (codes "u") (codes "y" ∷ [])

-- a commit takes one number for each operation
abbrev pub numbers_of_commits : List Case
numbers_of_commits =
    case_from (end - 1) 1 [] (
    step (c1 (sets one_key) reply.Done)
    ∷ no_step (c1 (sets one_key) reply.Spent)
    ∷ step (c1 (sets two_keys) reply.Spent)
    ∷ no_step (c1 (sets two_keys) reply.Done)
    ∷ [])
    ∷ case_from (end - 2) 1 [] (
    step (c1 (sets two_keys) reply.Done) ∷ no_step (c1 (sets two_keys) reply.Spent) ∷ [])
    ∷ case_from (end - 3) 1 (stored two_keys ∷ []) (
    step (c1 (sets one_key) reply.Done)
    ∷ step (c1 (sets two_keys) reply.Spent)
    ∷ no_step (c1 (sets two_keys) reply.Done)
    ∷ [])
    -- file numbers are nothing to a commit
    ∷ case_from 1 end [] (step (c1 (sets one_key) reply.Done) ∷ no_step (c1 (sets one_key) reply.Spent) ∷ [])
    -- one that is refused takes none
    ∷ case_from (end - 2) 1 (excise (codes "l1") m_to_t
    ∷ c1 (put (codes "n") (codes "1")) (reply.Fenced (codes "l1")) ∷ c1 (sets one_key) reply.Memory ∷ []) (
    step (c1 (sets two_keys) reply.Done) ∷ [])
    ∷ []

-- what open loads keep back: one number where there are tables, however many
abbrev pub numbers_kept_back : List Case
numbers_kept_back =
    case_from (end - 2) 1 (load (codes "l1") (table_x ∷ table_y ∷ []) None) (
    step (c1 (sets one_key) reply.Done)
    ∷ no_step (c1 (sets one_key) reply.Spent)
    ∷ step (c1 (sets two_keys) reply.Spent)
    ∷ no_step (c1 (sets two_keys) reply.Done)
    ∷ [])
    -- from the beginning of the opening on, until it fails
    ∷ case_from (end - 1) 1 (c1 (opens (codes "l1") (table_x ∷ []) None) reply.Opening ∷ []) (
    step (c1 (sets one_key) reply.Spent) ∷ no_step (c1 (sets one_key) reply.Done) ∷ [])
    ∷ case_from (end - 1) 1 (c1 (opens (codes "l1") (table_x ∷ []) None) reply.Opening
    ∷ c1 (opens (codes "l1") (table_x ∷ []) None) reply.Memory ∷ []) (
    step (c1 (sets one_key) reply.Done) ∷ no_step (c1 (sets one_key) reply.Spent) ∷ [])
    -- one for each load
    ∷ case_from (end - 3) 1 (load (codes "l1") (table_x ∷ []) None
    ++ load (codes "l2") (table_y ∷ []) (Some m_to_t)) (
    step (c1 (sets one_key) reply.Done)
    ∷ step (c1 (sets two_keys) reply.Spent)
    ∷ no_step (c1 (sets two_keys) reply.Done)
    ∷ [])
    -- a span alone keeps none
    ∷ case_from (end - 1) 1 (excise (codes "l1") m_to_t ∷ []) (
    step (c1 (sets one_key) reply.Done) ∷ no_step (c1 (sets one_key) reply.Spent) ∷ [])
    ∷ []

-- the sequence number of a load with tables, at its opening
abbrev pub numbers_of_openings : List Case
numbers_of_openings =
    case_from (end - 1) 1 [] (
    step (c1 (opens (codes "l1") (table_x ∷ table_y ∷ []) None) reply.Opening)
    ∷ no_step (c1 (opens (codes "l1") (table_x ∷ table_y ∷ []) None) reply.Spent)
    ∷ [])
    ∷ case_from end 1 [] (
    step (c1 (opens (codes "l1") (table_x ∷ []) None) reply.Spent)
    ∷ no_step (c1 (opens (codes "l1") (table_x ∷ []) None) reply.Opening)
    ∷ step (c1 (opens_span (codes "l1") a_to_m) reply.Opened)
    ∷ no_step (c1 (opens_span (codes "l1") a_to_m) reply.Spent)
    ∷ [])
    -- beside what other loads keep back
    ∷ case_from (end - 1) 1 (load (codes "l1") (table_x ∷ []) None) (
    step (c1 (opens (codes "l2") (table_y ∷ []) None) reply.Spent)
    ∷ no_step (c1 (opens (codes "l2") (table_y ∷ []) None) reply.Opening)
    ∷ [])
    ∷ case_from (end - 2) 1 (load (codes "l1") (table_x ∷ []) None) (
    step (c1 (opens (codes "l2") (table_y ∷ []) None) reply.Opening)
    ∷ no_step (c1 (opens (codes "l2") (table_y ∷ []) None) reply.Spent)
    ∷ [])
    ∷ case_from (end - 1) 1 (excise (codes "l1") a_to_m ∷ []) (
    step (c1 (opens (codes "l2") (table_y ∷ []) None) reply.Opening) ∷ [])
    ∷ []

-- an install takes the number that was kept back, and needs no further one
abbrev pub numbers_of_installs : List Case
numbers_of_installs =
    case_from (end - 2) 1 (load (codes "l1") (table_x ∷ table_y ∷ []) None
    ++ install (codes "l1") (changes [] (1 ∷ 2 ∷ []) ((6, loaded_key 1 (codes "x") (end - 2))
    ∷ (6, loaded_key 2 (codes "y") (end - 2)) ∷ [])) ∷ []) (
    step (c1 (sets one_key) reply.Done)
    ∷ no_step (c1 (sets one_key) reply.Spent)
    ∷ step (c1 (sets two_keys) reply.Spent)
    ∷ no_step (c1 (sets two_keys) reply.Done)
    ∷ [])
    -- at the last number
    ∷ case_from (end - 1) 1 (load (codes "l1") (table_x ∷ []) None) (
    step (install (codes "l1") (changes [] (1 ∷ []) ((6, loaded_key 1 (codes "x") (end - 1)) ∷ [])))
    ∷ no_step (c1 (Install (codes "l1")) reply.Spent)
    ∷ [])
    -- a load without tables takes none
    ∷ case_from (end - 2) 1 (excise (codes "l1") m_to_t ∷ install (codes "l1") (changes [] [] []) ∷ []) (
    step (c1 (sets two_keys) reply.Done) ∷ no_step (c1 (sets two_keys) reply.Spent) ∷ [])
    ∷ case_from end 1 (excise (codes "l1") m_to_t ∷ []) (
    step (install (codes "l1") (changes [] [] [])) ∷ no_step (c1 (Install (codes "l1")) reply.Spent) ∷ [])
    -- the tables have the number that is next at the install, and not that of the opening
    ∷ case_from 1 1 (load (codes "l1") (table_x ∷ []) None ++ stored two_keys ∷ []) (
    step (install (codes "l1") (changes [] (1 ∷ []) ((6, loaded_key 1 (codes "x") 3) ∷ [])))
    ∷ no_step (install (codes "l1") (changes [] (1 ∷ []) ((6, loaded_key 1 (codes "x") 1) ∷ [])))
    ∷ no_step (install (codes "l1") (changes [] (1 ∷ []) ((6, loaded_key 1 (codes "x") 2) ∷ [])))
    ∷ [])
    ∷ []

-- a group is sealed, from a file number on
abbrev pub sealed : List Note
sealed = stored one_key ∷ db Seal (reply.Group 1) ∷ []

abbrev pub table_a_at : ℕ → Table
table_a_at num = file_table num (from_upto (codes "a") (codes "a")) 1 1 85

-- a flush has one file number
abbrev pub files_of_flushes : List Case
files_of_flushes =
    case_from 1 (end - 1) sealed (
    step (db FlushTake (reply.Job 1)) ∷ no_step (db FlushTake reply.Spent) ∷ [])
    ∷ case_from 1 end sealed (
    step (db FlushTake reply.Spent) ∷ no_step (db FlushTake (reply.Job 1)) ∷ [])
    -- which it keeps though it fails
    ∷ case_from 1 (end - 1) (sealed ++ db FlushTake (reply.Job 1) ∷ db (Build 1) reply.Fault ∷ []) (
    step (db FlushTake reply.Spent) ∷ no_step (db FlushTake (reply.Job 2)) ∷ [])
    ∷ case_from 1 (end - 2) (sealed ++ db FlushTake (reply.Job 1) ∷ db (Build 1) reply.Fault ∷ []) (
    step (db FlushTake (reply.Job 2)) ∷ no_step (db FlushTake reply.Spent) ∷ [])
    -- sequence numbers are nothing to it, and nor is what loads keep back of them
    ∷ case_from (end - 2) (end - 2) (sealed ++ load (codes "l1") (table_x ∷ []) None) (
    step (db FlushTake (reply.Job 1)) ∷ no_step (db FlushTake reply.Spent) ∷ [])
    -- a refused take has none
    ∷ case_from 1 (end - 1) (sealed ++ db FlushTake reply.Memory ∷ []) (step (db FlushTake (reply.Job 1)) ∷ [])
    ∷ []

-- one table of L0 under the first file number, and another group is sealed
abbrev pub flushed_and_sealed : ℕ → List Note
flushed_and_sealed num =
    stored one_key ∷ flushed 1 1 (table_a_at num) ++ stored one_key ∷ db Seal (reply.Group 2) ∷ []

-- and the table is to be compacted
abbrev pub compacting : ℕ → List Note
compacting num = flushed_and_sealed num ++ holding (db (compact_l0 a_to_z) (reply.Job 2)) (Hold 1 1 ∷ []) ∷ []

-- a compaction has 64
abbrev pub files_of_compactions : List Case
files_of_compactions =
    case_from 1 (end - 65) (flushed_and_sealed (end - 65)) (
    step (holding (db (compact_l0 a_to_z) (reply.Job 2)) (Hold 1 1 ∷ []))
    ∷ no_step (db (compact_l0 a_to_z) reply.Spent)
    ∷ step (db (compact_l0 a_to_z) reply.Memory)
    ∷ [])
    ∷ case_from 1 (end - 64) (flushed_and_sealed (end - 64)) (
    step (db (compact_l0 a_to_z) reply.Spent)
    ∷ step (db (compact_l0 a_to_z) reply.Memory)
    ∷ no_step (holding (db (compact_l0 a_to_z) (reply.Job 2)) (Hold 1 1 ∷ []))
    ∷ step (db FlushTake (reply.Job 2))
    ∷ [])
    -- it takes them all
    ∷ case_from 1 (end - 66) (compacting (end - 66)) (
    step (db FlushTake (reply.Job 3)) ∷ no_step (db FlushTake reply.Spent) ∷ [])
    ∷ case_from 1 (end - 65) (compacting (end - 65)) (
    step (db FlushTake reply.Spent) ∷ no_step (db FlushTake (reply.Job 3)) ∷ [])
    ∷ []

-- a load has one for each table, from its opening on
abbrev pub files_of_loads : List Case
files_of_loads =
    case_from 1 (end - 2) sealed (
    step (c1 (opens (codes "l1") (table_x ∷ table_y ∷ []) None) reply.Opening)
    ∷ no_step (c1 (opens (codes "l1") (table_x ∷ table_y ∷ []) None) reply.Spent)
    ∷ [])
    ∷ case_from 1 (end - 1) sealed (
    step (c1 (opens (codes "l1") (table_x ∷ table_y ∷ []) None) reply.Spent)
    ∷ no_step (c1 (opens (codes "l1") (table_x ∷ table_y ∷ []) None) reply.Opening)
    ∷ step (c1 (opens (codes "l1") (table_x ∷ []) None) reply.Opening)
    ∷ no_step (c1 (opens (codes "l1") (table_x ∷ []) None) reply.Spent)
    ∷ [])
    ∷ case_from 1 end sealed (
    step (c1 (opens_span (codes "l1") m_to_t) reply.Opened)
    ∷ no_step (c1 (opens_span (codes "l1") m_to_t) reply.Spent)
    ∷ [])
    -- it takes them as it begins, and not as it ends or is installed
    ∷ case_from 1 (end - 2) (sealed ++ c1 (opens (codes "l1") (table_x ∷ table_y ∷ []) None) reply.Opening
    ∷ []) (
    step (db FlushTake reply.Spent) ∷ no_step (db FlushTake (reply.Job 1)) ∷ [])
    ∷ case_from 1 (end - 3) (sealed ++ load (codes "l1") (table_x ∷ table_y ∷ []) None) (
    step (db FlushTake (reply.Job 1)) ∷ no_step (db FlushTake reply.Spent) ∷ [])
    ∷ case_from 1 (end - 2) (sealed ++ load (codes "l1") (table_x ∷ []) None
    ++ install (codes "l1") (changes [] ((end - 2) ∷ []) ((6, loaded_key (end - 2) (codes "x") 2) ∷ [])) ∷ []) (
    step (db FlushTake (reply.Job 1)) ∷ no_step (db FlushTake reply.Spent) ∷ [])
    -- it keeps them though it fails
    ∷ case_from 1 (end - 1) (sealed ++ c1 (opens (codes "l1") (table_x ∷ []) None) reply.Opening
    ∷ c1 (opens (codes "l1") (table_x ∷ []) None) reply.Fault ∷ []) (
    step (db FlushTake reply.Spent) ∷ no_step (db FlushTake (reply.Job 1)) ∷ [])
    ∷ []

-- a table of a and z, and an open load with the span from b to c
abbrev pub a_and_z_at : ℕ → Table
a_and_z_at num = file_table num (from_upto (codes "a") (codes "z")) 1 2 90

abbrev pub to_halve : ℕ → Table → List Note
to_halve num t =
    stored (codes "a" ∷ codes "z" ∷ []) ∷ flushed 1 1 t ++ stored (codes "y" ∷ []) ∷ db Seal (reply.Group 2)
    ∷ excise (codes "l1") (from_to (codes "b") (codes "c")) ∷ []

abbrev pub left_half : ℕ → ℕ → Table
left_half num half = half_of (a_and_z_at num) half (from_upto (codes "a") (codes "a"))

abbrev pub right_half : ℕ → ℕ → Table
right_half num half = half_of (a_and_z_at num) half (from_upto (codes "z") (codes "z"))

-- two tables, of which one reaches beyond the span on its left, and one on its right
abbrev pub two_to_halve : ℕ → List Note
two_to_halve num =
    stored (codes "a" ∷ []) ∷ flushed 1 1 (file_table num (from_to (codes "a") (codes "c")) 1 1 90)
    ++ stored (codes "z" ∷ []) ∷ flushed 2 2 (file_table (num + 1) (from_to (codes "b") (codes "zz")) 2 2 90)
    ++ excise (codes "l1") (from_to (codes "b") (codes "c"))
    ∷ []

-- a half has one, at the install
abbrev pub files_of_halves : List Case
files_of_halves =
    -- there are two for two halves
    case_from 1 (end - 3) (to_halve (end - 3) (a_and_z_at (end - 3))) (
    step (install (codes "l1") (changes ((0, end - 3) ∷ []) [] ((0, left_half (end - 3) (end - 2))
    ∷ (0, right_half (end - 3) (end - 1)) ∷ [])))
    ∷ no_step (c1 (Install (codes "l1")) reply.Spent)
    ∷ [])
    -- there is one, which serves where the work finds but one half
    ∷ case_from 1 (end - 2) (to_halve (end - 2) (a_and_z_at (end - 2))) (
    step (c1 (Install (codes "l1")) reply.Spent)
    ∷ step (install (codes "l1") (changes ((0, end - 2) ∷ []) [] ((0, right_half (end - 2) (end - 1)) ∷ [])))
    ∷ no_step (install (codes "l1") (changes ((0, end - 2) ∷ []) [] ((0, left_half (end - 2) (end - 1))
    ∷ (0, right_half (end - 2) end) ∷ [])))
    ∷ [])
    -- they are taken
    ∷ case_from 1 (end - 3) (to_halve (end - 3) (a_and_z_at (end - 3))
    ++ install (codes "l1") (changes ((0, end - 3) ∷ []) [] ((0, left_half (end - 3) (end - 2))
    ∷ (0, right_half (end - 3) (end - 1)) ∷ [])) ∷ []) (
    step (db FlushTake reply.Spent) ∷ no_step (db FlushTake (reply.Job 2)) ∷ [])
    ∷ case_from 1 (end - 3) (to_halve (end - 3) (a_and_z_at (end - 3))
    ++ install (codes "l1") (changes ((0, end - 3) ∷ []) [] ((0, left_half (end - 3) (end - 2)) ∷ [])) ∷ []) (
    step (db FlushTake (reply.Job 2)) ∷ no_step (db FlushTake reply.Spent) ∷ [])
    -- a table that reaches beyond the span on one side has one at most, and one inside it has none
    ∷ case_from 1 (end - 2) (to_halve (end - 2)
    (file_table (end - 2) (from_to (codes "b") (codes "zz")) 1 2 90)) (
    no_step (c1 (Install (codes "l1")) reply.Spent) ∷ [])
    ∷ case_from 1 (end - 1) (to_halve (end - 1)
    (file_table (end - 1) (from_to (codes "b") (codes "zz")) 1 2 90)) (
    step (c1 (Install (codes "l1")) reply.Spent) ∷ [])
    ∷ case_from 1 (end - 2) (to_halve (end - 2)
    (file_table (end - 2) (from_to (codes "a") (codes "c")) 1 2 90)) (
    no_step (c1 (Install (codes "l1")) reply.Spent) ∷ [])
    ∷ case_from 1 (end - 1) (to_halve (end - 1)
    (file_table (end - 1) (from_to (codes "a") (codes "c")) 1 2 90)) (
    step (c1 (Install (codes "l1")) reply.Spent) ∷ [])
    ∷ case_from 1 (end - 1) (to_halve (end - 1)
    (file_table (end - 1) (from_to (codes "b") (codes "c")) 1 2 90)) (
    no_step (c1 (Install (codes "l1")) reply.Spent)
    ∷ step (install (codes "l1") (changes ((0, end - 1) ∷ []) [] []))
    ∷ [])
    -- several have theirs in sum
    ∷ case_from 1 (end - 4) (two_to_halve (end - 4)) (
    no_step (c1 (Install (codes "l1")) reply.Spent) ∷ [])
    ∷ case_from 1 (end - 3) (two_to_halve (end - 3)) (
    step (c1 (Install (codes "l1")) reply.Spent) ∷ [])
    -- one beside it has none
    ∷ case_from 1 (end - 1) (to_halve (end - 1)
    (file_table (end - 1) (from_to (codes "c") (codes "zz")) 1 2 90)) (
    no_step (c1 (Install (codes "l1")) reply.Spent)
    ∷ step (install (codes "l1") (changes [] [] []))
    ∷ [])
    ∷ []
