-- Versions: the tables of each level, and what an edit makes of them.
use Rattle.std.specs.Prelude.{ℕ, zero, suc, Bool, true, ◌&&◌, not, List, [], ◌∷◌, take, filter, Option, Some, None, ◌==◌, is_none, if◌then◌else◌}
use Rattle.std.specs.declared.cmp.Ordering.{Ordering}
use Rattle.std.specs.List.{list_all, list_any, filter_map}
use Rattle.std.specs.Ordering.{nat_cmp, ordering_then}
pub use Rattle.xdb_lists.specs.Sorted.{is_sorted, put_in, put_all_in}
use Rattle.xdb_key.specs.Bounds.{meets}
use Rattle.xdb_key.specs.Order.{key_cmp, is_below, is_upto}
use Rattle.xdb_meta.specs.Table.{Table, bounds_of}
use Rattle.xdb_edit.specs.Changes.{Changes}

-- the tables of each level, L0 first
abbrev pub LevelLists : Type 0
LevelLists = List (List Table)

-- seven levels without tables
abbrev pub no_tables : LevelLists
no_tables = [] ∷ [] ∷ [] ∷ [] ∷ [] ∷ [] ∷ [] ∷ []

-- L0 stands by the greatest sequence number, every other level by where its tables begin; then by number
abbrev pub table_cmp : ℕ → Table → Table → Ordering
table_cmp zero a b = ordering_then (nat_cmp a.seq_hi b.seq_hi) (nat_cmp a.num b.num)
table_cmp (suc level) a b = ordering_then (key_cmp a.lo b.lo) (nat_cmp a.num b.num)

-- the edit removes the table from the level
abbrev pub removes : Changes → ℕ → Table → Bool
removes e level t = list_any (λ r. r.0 == level && r.1 == t.num) e.removed

-- the tables that the edit adds to the level
abbrev pub added_to : Changes → ℕ → List Table
added_to e level = filter_map (λ a. if a.0 == level then Some a.1 else None) e.added

-- the tables of a level after the edit
abbrev pub edited_level : Changes → ℕ → List Table → List Table
edited_level e level ts = put_all_in (table_cmp level) (added_to e level) (filter (λ t. not (removes e level t)) ts)

-- the levels from one on after the edit
abbrev pub edited_from : ℕ → Changes → LevelLists → LevelLists
edited_from level e [] = []
edited_from level e (ts ∷ rest) = edited_level e level ts ∷ edited_from (suc level) e rest

-- a version after the edit
abbrev pub edited : LevelLists → Changes → LevelLists
edited levels e = edited_from 0 e levels

-- one edit after the other
abbrev pub edited_by : LevelLists → List Changes → LevelLists
edited_by levels [] = levels
edited_by levels (e ∷ es) = edited_by (edited levels e) es

-- the version that a history of edits leads to
abbrev pub version_of : List Changes → LevelLists
version_of edits = edited_by no_tables edits

-- the version of this number; number 0 has no tables
abbrev pub version : List Changes → ℕ → LevelLists
version edits i = version_of (take i edits)

-- the tables of a level
abbrev pub tables_of : LevelLists → ℕ → List Table
tables_of [] level = []
tables_of (ts ∷ rest) zero = ts
tables_of (ts ∷ rest) (suc level) = tables_of rest level

-- the level has a table of this number
abbrev pub stands_in : LevelLists → ℕ × ℕ → Bool
stands_in levels p = list_any (λ t. t.num == p.1) (tables_of levels p.0)

-- the number of the first removed pair that isn't there
abbrev pub missing_from : LevelLists → List (ℕ × ℕ) → Option ℕ
missing_from levels [] = None
missing_from levels (p ∷ ps) = if stands_in levels p then missing_from levels ps else Some p.1

abbrev pub missing : LevelLists → Changes → Option ℕ
missing levels e = missing_from levels e.removed

-- the first, or else the second
abbrev pub or_else : {A : Type 0} → Option A → Option A → Option A
or_else (Some x) o = Some x
or_else None o = o

-- the first two neighbours that meet, of a table and those behind it
abbrev pub meeting_after : Table → List Table → Option (ℕ × ℕ)
meeting_after t [] = None
meeting_after t (u ∷ us) = if meets (bounds_of t) (bounds_of u) then Some (t.num, u.num) else meeting_after u us

abbrev pub meeting_in : List Table → Option (ℕ × ℕ)
meeting_in [] = None
meeting_in (t ∷ ts) = meeting_after t ts

abbrev pub meeting_among : LevelLists → Option (ℕ × ℕ)
meeting_among [] = None
meeting_among (ts ∷ rest) = or_else (meeting_in ts) (meeting_among rest)

-- the first two neighbours that meet, of the least level above L0 that has such
abbrev pub overlap : LevelLists → Option (ℕ × ℕ)
overlap [] = None
overlap (l0 ∷ rest) = meeting_among rest

-- what the edit removes is there, and what it leaves doesn't overlap
abbrev pub applies : LevelLists → Changes → Bool
applies levels e = is_none (missing levels e) && is_none (overlap (edited levels e))

-- each table ends before those behind it begin
abbrev pub is_disjoint : List Table → Bool
is_disjoint [] = true
is_disjoint (t ∷ ts) = list_all (λ u. is_upto t.hi u.lo) ts && is_disjoint ts

-- the levels from one on stand in their order
abbrev pub are_sorted_from : ℕ → LevelLists → Bool
are_sorted_from level [] = true
are_sorted_from level (ts ∷ rest) = is_sorted (table_cmp level) ts && are_sorted_from (suc level) rest

abbrev pub are_sorted : LevelLists → Bool
are_sorted levels = are_sorted_from 0 levels

-- the tables of every level above L0 are apart
abbrev pub are_disjoint : LevelLists → Bool
are_disjoint [] = true
are_disjoint (l0 ∷ rest) = list_all is_disjoint rest

-- the table's bounds hold a key
abbrev pub has_range : Table → Bool
has_range t = is_below t.lo t.hi

abbrev pub have_ranges : LevelLists → Bool
have_ranges levels = list_all (list_all has_range) levels
