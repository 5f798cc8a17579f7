-- Short histories that several tables of cases stand on, and short ways to write their notes.
use Rattle.std.specs.Prelude.{ℕ, ◌+◌, ◌/◌, ◌%◌, true, List, [], ◌∷◌, map, Option, Some, None, codes}
use Rattle.std.specs.List.{range_with_len}
use Rattle.xdb_key.specs.Bounds.{Bounds}
use Rattle.xdb_key.specs.declared.op.Op.TheVariants.{Set}
use Rattle.xdb_meta.specs.Table.{Table}
use Rattle.xdb_plain.specs.Tables.{TableOps, table_ops}
use Rattle.xdb_plain.specs.declared.act.Act.{Act}
use Rattle.xdb_plain.specs.declared.act.Act.TheVariants.{Snap, Cursor, LoadOpen}
use Rattle.xdb_plain.specs.declared.note.HoldNote.TheVariants.{Hold}
use Rattle.xdb_plain.specs.declared.note.Note.{Note}
use Rattle.xdb_plain.specs.declared.reply.Reply.TheVariants as reply
use Rattle.xdb_rows.specs.Notes.{c1, holding, from_to, from_upto, loaded_table, batch, get, excise, ask_held}

abbrev pub a_to_c : Bounds
a_to_c = from_to (codes "a") (codes "c")

abbrev pub a_to_m : Bounds
a_to_m = from_to (codes "a") (codes "m")

abbrev pub c_to_e : Bounds
c_to_e = from_to (codes "c") (codes "e")

abbrev pub m_to_t : Bounds
m_to_t = from_to (codes "m") (codes "t")

abbrev pub a_to_z : Bounds
a_to_z = from_to (codes "a") (codes "z")

-- one command that sets these keys
abbrev pub sets : List (List ℕ) → Act
sets keys = batch (map (λ k. Set k (codes "1")) keys)

abbrev pub stored : List (List ℕ) → Note
stored keys = c1 (sets keys) reply.Done

-- a table to be loaded that sets these keys
abbrev pub table_with : List ℕ → List (List ℕ) → TableOps
table_with name keys = table_ops name (map (λ k. Set k (codes "1")) keys)

-- a load of tables, or of a span alone, is to be opened
abbrev pub opens : List ℕ → List TableOps → Option Bounds → Act
opens name tables span = LoadOpen name tables span

abbrev pub opens_span : List ℕ → Bounds → Act
opens_span name span = LoadOpen name [] (Some span)

-- the table of one key that a load brings
abbrev pub loaded_key : ℕ → List ℕ → ℕ → Table
loaded_key num key seq = loaded_table num (from_upto key key) seq 85

-- the names from "ab" on, and "ba" and so on behind "ah"
abbrev pub nth_name : ℕ → List ℕ
nth_name n = (97 + n / 8) ∷ (97 + n % 8) ∷ []

-- so many open loads, cursors, questions and snapshots
abbrev pub nth_load : ℕ → Note
nth_load n = excise (nth_name n) (from_upto (nth_name n) (nth_name n))

abbrev pub many_loads : ℕ → List Note
many_loads count = map nth_load (range_with_len 1 count)

abbrev pub nth_cursor : ℕ → Note
nth_cursor n = holding (c1 (Cursor (nth_name n) a_to_m None) reply.CursorOn) (Hold n 0 ∷ [])

abbrev pub many_cursors : ℕ → List Note
many_cursors count = map nth_cursor (range_with_len 1 count)

abbrev pub nth_question : ℕ → Note
nth_question n = ask_held n (get (codes "a")) true (Hold n 0)

abbrev pub many_questions : ℕ → List Note
many_questions count = map nth_question (range_with_len 1 count)

abbrev pub nth_snap : ℕ → Note
nth_snap n = holding (c1 (Snap (nth_name n) (a_to_m ∷ [])) reply.FileOnly) (Hold n 0 ∷ [])

abbrev pub many_snaps : ℕ → List Note
many_snaps count = map nth_snap (range_with_len 1 count)
