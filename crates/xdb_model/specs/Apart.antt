-- Tables of a level, and hulls of compactions, that don't meet.
use Rattle.std.specs.Prelude.{◌≡◌, ℕ, ◌+◌, ◌<◌, false, ◌&&◌, List, [], ◌∷◌, map, Option, Some, None, IsTrue, ◌==◌}
use Rattle.std.specs.List.{list_any, AllByRecursion}
use Rattle.xdb_rangedel.specs.Members.{Has}
use Rattle.xdb_key.specs.Bounds.{Bounds, meets, covers}
use Rattle.xdb_key.specs.Order.{is_below}
use Rattle.xdb_meta.specs.Table.{Table, bounds_of}
use Rattle.xdb_edit.specs.Changes.{Changes}
use Rattle.xdb_edit.specs.Versions.{LevelLists, tables_of}
use Rattle.xdb_plain.specs.Edits.{running_hulls}
use Rattle.xdb_plain.specs.State.{Plain, JobKind, flush_of, compaction_of, Compaction}
use Rattle.xdb_plain.specs.declared.act.Act.{Act}
use Rattle.xdb_plain.specs.declared.act.Act.TheVariants as act
use Rattle.xdb_plain.specs.declared.note.Note.{Note}

-- what holds of each two elements, the earlier one first
abbrev pub Pairwise : {A : Type 0} → (A → A → Type 0) → List A → Type 0
Pairwise R [] = Unit {0}
Pairwise R (x ∷ xs) = AllByRecursion (R x) xs × Pairwise R xs

abbrev pub IsOff : Bounds → Bounds → Type 0
IsOff r o = meets r o ≡ false

-- no two of the tables meet
abbrev pub AreApart : List Table → Type 0
AreApart ts = Pairwise (λ t u. IsOff (bounds_of t) (bounds_of u)) ts

-- ---- what is asked of a note

abbrev pub AddsApart : Option Changes → Type 0
AddsApart None = Unit {0}
AddsApart (Some e) = AreApart (map (λ a. a.1) e.added)

abbrev pub IsRange : Option Bounds → Type 0
IsRange None = Unit {0}
IsRange (Some span) = IsTrue (is_below span.lo span.hi)

-- no two tables of what a flush or a compaction puts meet
abbrev pub PutsApart : Act → Option Changes → Type 0
PutsApart (act.Put job) edit = AddsApart edit
PutsApart _ edit = Unit {0}

-- the span of a load begins below its end
abbrev pub OpensRange : Act → Type 0
OpensRange (act.LoadOpen load tables span) = IsRange span
OpensRange _ = Unit {0}

pub record IsOrderly (note : Note) : Type 0 where
  pub puts : PutsApart note.act note.edit
  pub opens : OpensRange note.act

-- ---- running compactions

-- The tables of the level that meet the compaction's hull lie in it, and are its inputs.
abbrev pub HasAllAt : LevelLists → Compaction → ℕ → Type 0
HasAllAt levels c level = AllByRecursion (λ t. IsTrue (meets c.hull (bounds_of t))
    → IsTrue (covers c.hull (bounds_of t)) × IsTrue (list_any (λ i. i.0 == level && i.1 == t.num) c.inputs)) (tables_of levels level)

-- So it is at the level that the compaction writes to, and at the one that it takes from where this isn't L0, to
-- which flushes add.
pub record HasAll (levels : LevelLists) (c : Compaction) : Type 0 where
  pub from : 0 < c.level → HasAllAt levels c c.level
  pub into : HasAllAt levels c (c.level + 1)

-- an input is a table of its level and lies in the hull
pub record StandsIn (levels : LevelLists) (hull : Bounds) (input : ℕ × ℕ) : Type 0 where
  pub table : Table
  pub among : Has (tables_of levels input.0) table
  pub same_num : table.num ≡ input.1
  pub within : IsTrue (covers hull (bounds_of table))

abbrev pub HasInputs : LevelLists → Compaction → Type 0
HasInputs levels c = AllByRecursion (StandsIn levels c.hull) c.inputs

-- what holds of a job where it is a compaction that no load has cancelled
abbrev pub Uncancelled : (Compaction → Type 0) → JobKind → Type 0
Uncancelled P (flush_of group) = Unit {0}
Uncancelled P (compaction_of c) = c.cancelled ≡ None → P c

-- The hulls of running compactions don't meet. Each that isn't cancelled has its inputs, and all that meets its hull.
pub record CompactionsFit (p : Plain) : Type 0 where
  pub apart : Pairwise IsOff (running_hulls p.jobs)
  pub over : AllByRecursion (λ j. Uncancelled (HasAll p.current.levels) j.kind) p.jobs
  pub inputs : AllByRecursion (λ j. Uncancelled (HasInputs p.current.levels) j.kind) p.jobs
