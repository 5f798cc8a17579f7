-- What a flush, a compaction and a load may change in the tables.
use Rattle.std.specs.Prelude.{◌≡◌, ℕ, ◌+◌, ◌/◌, ◌≤◌, Bool, true, false, not, ◌&&◌, List, [], ◌∷◌, length, map, filter, Option, Some, None, IsTrue, ◌==◌, if◌then◌else◌}
use Rattle.std.specs.List.{list_all, list_any, flat_map, range_with_len, enumerate_from, filter_map}
use Rattle.xdb_key.specs.Bounds.{Bounds, covers}
use Rattle.xdb_key.specs.Order.{is_upto}
use Rattle.xdb_meta.specs.Table.{Table, bounds_of}
use Rattle.xdb_edit.specs.Changes.{Changes, changes}
use Rattle.xdb_edit.specs.Plans.{meeting, inputs_at, place}
use Rattle.xdb_edit.specs.Versions.{LevelLists, edited}
use Rattle.xdb_plain.specs.State.{Plain, Load, Job, JobKind, flush_of, compaction_of, Compaction}
use Rattle.xdb_plain.specs.Tables.{TableOps, table_bounds, same_bounds}

-- a table in a file of its own, with this number
abbrev pub is_physical : ℕ → Table → Bool
is_physical num t = t.num == num && not t.virt

abbrev pub is_flushed : ℕ → List (ℕ × Table) → Bool
is_flushed num (a ∷ []) = a.0 == 0 && is_physical num a.1
is_flushed num _ = false

-- a flush adds one table to L0, in the file whose number the job has
pub record IsFlushOf (job : Job) (e : Changes) : Type 0 where
  pub removed : e.removed ≡ []
  pub new_backings : e.new_backings ≡ job.first ∷ []
  pub added : IsTrue (is_flushed job.first e.added)

abbrev pub is_output : Compaction → ℕ × Table → Bool
is_output c a = a.0 == c.level + 1 && not a.1.virt && covers c.hull (bounds_of a.1)

-- a compaction replaces its inputs by at most 64 tables of the next level within its hull, in files with the first
-- of the numbers that the job has
pub record IsCompactionOf (job : Job) (c : Compaction) (e : Changes) : Type 0 where
  pub removed : e.removed ≡ c.inputs
  pub few : length e.added ≤ 64
  pub numbers : map (λ a. a.1.num) e.added ≡ range_with_len job.first (length e.added)
  pub new_backings : e.new_backings ≡ range_with_len job.first (length e.added)
  pub outputs : IsTrue (list_all (is_output c) e.added)

-- the hull of a running compaction
abbrev pub job_hull : Job → Option Bounds
job_hull j = kind_hull j.kind
  where
    kind_hull : JobKind → Option Bounds
    kind_hull (flush_of group) = None
    kind_hull (compaction_of c) = Some c.hull

abbrev pub running_hulls : List Job → List Bounds
running_hulls jobs = filter_map job_hull jobs

-- the tables that meet a span, each with its level: level after level, each in its order
abbrev pub crossed_in : ℕ × List Table → Bounds → List (ℕ × Table)
crossed_in (level, ts) span = map (λ t. (level, t)) (meeting span ts)

abbrev pub crossed : LevelLists → Option Bounds → List (ℕ × Table)
crossed levels None = []
crossed levels (Some span) = flat_map (λ l. crossed_in l span) (enumerate_from 0 levels)

-- the same tables as an edit names them, by level and number
abbrev pub removed_by : LevelLists → Option Bounds → List (ℕ × ℕ)
removed_by levels None = []
removed_by levels (Some span) = flat_map (λ l. inputs_at levels l.0 span) (enumerate_from 0 levels)

-- A part of a removed table, under the next file number: it stands in its level and on its file, has its
-- numbers and half its size, and lies in its bounds.
abbrev pub is_part : ℕ → ℕ × Table → ℕ × Table → Bool
is_part num old new =
    new.0 == old.0 && new.1.num == num && new.1.virt && new.1.backing == old.1.backing
    && new.1.seq_lo == old.1.seq_lo && new.1.seq_hi == old.1.seq_hi && new.1.synthetic == old.1.synthetic
    && new.1.size == (old.1.size + 1) / 2 && covers (bounds_of old.1) (bounds_of new.1)

-- the part before the span, and the part behind it
abbrev pub is_left : Bounds → ℕ → ℕ × Table → ℕ × Table → Bool
is_left span num old new = is_part num old new && is_upto new.1.hi span.lo

abbrev pub is_right : Bounds → ℕ → ℕ × Table → ℕ × Table → Bool
is_right span num old new = is_part num old new && is_upto span.hi new.1.lo

-- What is left of the parts, with the next number, where the first of them may be that of a table on one side.
pub record Rest : Type 0 where
  pub num : ℕ
  pub parts : List (ℕ × Table)

abbrev pub rest : ℕ → List (ℕ × Table) → Rest
rest num parts = record { num = num; parts = parts }

abbrev pub behind : (ℕ → ℕ × Table → Bool) → Rest → Rest
behind is_half r = behind_first r.parts
  where
    behind_first : List (ℕ × Table) → Rest
    behind_first [] = r
    behind_first (part ∷ parts) = if is_half r.num part then rest (r.num + 1) parts else r

-- table after table may have one part on its left, and then one on its right
abbrev pub behind_halves : Bounds → List (ℕ × Table) → Rest → Rest
behind_halves span [] r = r
behind_halves span (old ∷ olds) r = behind_halves span olds (behind (λ num. is_right span num old) (behind (λ num. is_left span num old) r))

abbrev pub is_empty : {A : Type 0} → List A → Bool
is_empty [] = true
is_empty (x ∷ xs) = false

-- the parts are halves of the tables that the span meets, with the numbers from one on
abbrev pub are_halves : ℕ → Option Bounds → List (ℕ × Table) → List (ℕ × Table) → Bool
are_halves num None olds parts = is_empty parts
are_halves num (Some span) olds parts = is_empty (behind_halves span olds (rest num parts)).parts

-- the added tables that are parts of others, and those in files of their own
abbrev pub virtual_in : Changes → List (ℕ × Table)
virtual_in e = filter (λ a. a.1.virt) e.added

abbrev pub physical_in : Changes → List (ℕ × Table)
physical_in e = filter (λ a. not a.1.virt) e.added

-- a loaded table has its load's one sequence number
abbrev pub is_loaded : ℕ → TableOps → ℕ → ℕ × Table → Bool
is_loaded num t seq a =
    is_physical num a.1 && same_bounds (bounds_of a.1) (table_bounds t)
    && a.1.seq_lo == seq && a.1.seq_hi == seq && a.1.synthetic == seq

-- the tables of a load are among the added ones, with the numbers from one on, each where it has its place
abbrev pub are_loaded : LevelLists → List Bounds → ℕ → ℕ → List TableOps → List (ℕ × Table) → Bool
are_loaded levels running num seq [] added = true
are_loaded levels running num seq (t ∷ ts) added =
    list_any (λ a. a.0 == place levels running (table_bounds t) && is_loaded num t seq a) added
    && are_loaded levels running (num + 1) seq ts added

-- what the halves leave of a version
abbrev pub halved : LevelLists → Changes → LevelLists
halved levels e = edited levels (changes e.removed [] (virtual_in e))

-- A load removes the tables that its span meets, and adds their halves and its own tables. Each of these goes as
-- far down as it can in the version that the halves leave.
pub record IsInstallOf (p : Plain) (l : Load) (e : Changes) : Type 0 where
  pub removed : e.removed ≡ removed_by p.current.levels l.span
  pub new_backings : e.new_backings ≡ range_with_len l.first (length l.tables)
  pub halves : IsTrue (are_halves p.file l.span (crossed p.current.levels l.span) (virtual_in e))
  pub loaded : IsTrue (are_loaded (halved p.current.levels e) (running_hulls p.jobs) l.first p.next l.tables (physical_in e))
  pub no_more : length (physical_in e) ≡ length l.tables
