-- The levels of a version, one after the other.
use Rattle.std.proofs.Common.{◌≡◌, ℕ, ◌+◌, ◌<◌, ◌≤◌, List, [], length, get_or, take, eqb, ltb, cond, Some, None, inl, inr, sym, ap, ◌∙◌, arith}
use Rattle.std.proofs.lemmas.Bool.{cases_Bool, cond-true, cond-false, ltb-true}
use Rattle.std.proofs.lemmas.List.{take_all}
use Rattle.std.proofs.lemmas.List.Sums.{sum_by_more, sum_by_more_le, sum_by-le-sum_by, count_by-le-length}
use Rattle.xdb_meta.specs.Table.{Table}
use Rattle.xdb_edit.specs.Versions.{LevelLists, tables_of}
use Rattle.xdb_levels.proofs.LevelLaws.{tables_of-get_or}
use Rattle.xdb_vset.specs.Counts.{named_in, named_by, table_count}

-- one level more
pub named_more : (b : ℕ) (levels : LevelLists) (i : ℕ) → i < length levels → named_by b (take (i + 1) levels) ≡ named_by b (take i levels) + named_in b (tables_of levels i)
named_more b levels i l = sum_by_more (named_in b) levels i [] l ∙ ap (λ ts. named_by b (take i levels) + named_in b ts) (sym (tables_of-get_or levels i))

pub named_more_le : (b : ℕ) (levels : LevelLists) (i : ℕ) → i < length levels → named_by b (take i levels) + named_in b (tables_of levels i) ≤ named_by b levels
named_more_le b levels i l =
    let e : named_by b (take i levels) + named_in b (tables_of levels i) ≡ named_by b (take i levels) + named_in b (get_or levels i []) = ap (λ ts. named_by b (take i levels) + named_in b ts) (tables_of-get_or levels i) in
    let h : named_by b (take i levels) + named_in b (get_or levels i []) ≤ named_by b levels = sum_by_more_le (named_in b) levels i [] l in
    omega arith

pub named_whole : (b : ℕ) (levels : LevelLists) (i : ℕ) → length levels ≤ i → named_by b (take i levels) ≡ named_by b levels
named_whole b levels i l = ap (named_by b) (take_all i levels l)

-- ---- how many tables there are

pub tables_more : (levels : LevelLists) (i : ℕ) → i < length levels → table_count (take (i + 1) levels) ≡ table_count (take i levels) + length (tables_of levels i)
tables_more levels i l = sum_by_more length levels i [] l ∙ ap (λ (ts : List Table). table_count (take i levels) + length ts) (sym (tables_of-get_or levels i))

pub tables_more_le : (levels : LevelLists) (i : ℕ) → i < length levels → table_count (take i levels) + length (tables_of levels i) ≤ table_count levels
tables_more_le levels i l =
    let e : table_count (take i levels) + length (tables_of levels i) ≡ table_count (take i levels) + length (get_or levels i []) = ap (λ (ts : List Table). table_count (take i levels) + length ts) (tables_of-get_or levels i) in
    let h : table_count (take i levels) + length (get_or levels i []) ≤ table_count levels = sum_by_more_le length levels i [] l in
    omega arith

pub tables_whole : (levels : LevelLists) (i : ℕ) → length levels ≤ i → table_count (take i levels) ≡ table_count levels
tables_whole levels i l = ap table_count (take_all i levels l)

-- a file isn't named more often than there are tables
pub named_few : (b : ℕ) (levels : LevelLists) → named_by b levels ≤ table_count levels
named_few b levels = sum_by-le-sum_by (named_in b) length levels (λ (ts : List Table). count_by-le-length (λ (t : Table). eqb b t.backing) ts)

-- a number that was told is the number, and it fits
pub told_count : (n m top : ℕ) → Some n ≡ cond (ltb m top) (Some m) None → (n ≡ m) × (m < top)
told_count n m top h = elim (cases_Bool (ltb m top)) [
  | inl e ↦ let same : Some n ≡ Some m = h ∙ cond-true (ltb m top) (Some m) None e in (cc, ltb-true m top e)
  | inr e ↦ let off : Some n ≡ None = h ∙ cond-false (ltb m top) (Some m) None e in absurd cc
]
