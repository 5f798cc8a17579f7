-- Where point blocks end.
use Rattle.std.proofs.Common.{◌≡◌, ℕ, zero, suc, ◌+◌, ◌-◌, ◌<◌, ◌≤◌, List, [], ◌∷◌, ◌++◌, length, take, sym, ap, ◌∙◌, subst, arith}
use Rattle.std.specs.List.{AllByRecursion}
use Rattle.std.proofs.lemmas.List.{length-append}
use Rattle.std.proofs.Math.Seq.{take-append_seam}
use Rattle.xdb_block.specs.Kept.{Draft}
use Rattle.xdb_block.specs.Rows.{Row}
use Rattle.xdb_block.specs.Spelling.{is_restart, left_out, entry_bytes, entries_from, entries}
use Rattle.xdb_table_w.specs.Files.{front, IsOpen, IsFull, AreCut}
use Rattle.xdb_table_w.specs.Halves.{rows_in, HasEnded}

-- fewer rows have no more bytes
fewer : (interval i n : ℕ) (last : List ℕ) (rows : List Row) → length (entries_from interval i last (take n rows)) ≤ length (entries_from interval i last rows)
fewer interval i zero last rows = omega arith
fewer interval i (suc n) last [] = omega arith
fewer interval i (suc n) last (r ∷ rows) =
    let entry = entry_bytes (left_out (is_restart interval i) last r.key) r in
    let rest = fewer interval (i + 1) n r.key rows in
    omega (arith, length-append entry (entries_from interval (i + 1) r.key (take n rows)), length-append entry (entries_from interval (i + 1) r.key rows))

pub open_rows : (rows : List Row) → 1 ≤ length rows → length (entries 16 rows) < 4096 → IsOpen 16 rows
open_rows rows some few = (some, omega (arith, fewer 16 0 (length rows - 1) [] rows))

pub front-push : (rows : List Row) (r : Row) → front (rows ++ r ∷ []) ≡ rows
front-push rows r =
    let len : length (rows ++ r ∷ []) - 1 ≡ length rows = omega (arith, length-append rows (r ∷ [])) in
    ap (λ n. take n (rows ++ r ∷ [])) len ∙ take-append_seam rows (r ∷ [])

-- a block that was open, and reaches the bytes with one row more
pub full_rows : (rows : List Row) (r : Row) → length (entries 16 rows) < 4096 → 4096 ≤ length (entries 16 (rows ++ r ∷ [])) → IsFull 16 (rows ++ r ∷ [])
full_rows rows r few many =
    let before : length (entries 16 (front (rows ++ r ∷ []))) < 4096 = subst (λ xs. length (entries 16 xs) < 4096) (sym (front-push rows r)) few in
    ((omega (arith, length-append rows (r ∷ [])), before), many)

ended_cut : (d : Draft) (blocks : List Draft) → AllByRecursion HasEnded (d ∷ blocks) → AreCut 16 (rows_in (d ∷ blocks))
ended_cut d [] h = h.0.1.0
ended_cut d (e ∷ blocks) h = (h.0.1, ended_cut e blocks h.1)

pub all_cut : (blocks : List Draft) → AllByRecursion HasEnded blocks → AreCut 16 (rows_in blocks)
all_cut [] h = tt
all_cut (d ∷ blocks) h = ended_cut d blocks h

more_cut : (d last : Draft) (blocks : List Draft) → AllByRecursion HasEnded (d ∷ blocks) → IsOpen 16 last.rows → AreCut 16 (rows_in (d ∷ blocks ++ last ∷ []))
more_cut d last [] h open_ = (h.0.1, open_)
more_cut d last (e ∷ blocks) h open_ = (h.0.1, more_cut e last blocks h.1 open_)

pub last_cut : (blocks : List Draft) (last : Draft) → AllByRecursion HasEnded blocks → IsOpen 16 last.rows → AreCut 16 (rows_in (blocks ++ last ∷ []))
last_cut [] last h open_ = open_
last_cut (d ∷ blocks) last h open_ = more_cut d last blocks h open_

pub ended_more : (blocks : List Draft) (d : Draft) → AllByRecursion HasEnded blocks → HasEnded d → AllByRecursion HasEnded (blocks ++ d ∷ [])
ended_more [] d h e = (e, tt)
ended_more (b ∷ blocks) d h e = (h.0, ended_more blocks d h.1 e)
