-- What the edit of a load does to the tables of a version, where it is known what each table has.
use Rattle.std.specs.Prelude.{◌≡◌, ℕ, ◌<◌, ◌≤◌, ◌⊎◌, ◌↔◌, Bool, true, false, List, [], ◌∷◌, ◌++◌, length, map, Option, Some, None, IsTrue, if◌then◌else◌}
use Rattle.std.specs.List.{flat_map}
use Rattle.xdb_key.specs.Bounds.{Bounds, meets, covers}
use Rattle.xdb_edit.specs.Changes.{Changes}
use Rattle.xdb_edit.specs.Plans.{place}
use Rattle.xdb_edit.specs.Versions.{LevelLists, tables_of, removes, edited}
use Rattle.xdb_meta.specs.Table.{Table, bounds_of}
use Rattle.xdb_plain.specs.Edits.{halved}
use Rattle.xdb_plain.specs.Tables.{TableOps}
use Rattle.xdb_rangedel.specs.Content.{Item}
use Rattle.xdb_rangedel.specs.Layers.{IsSilentAt}
use Rattle.xdb_rangedel.specs.Members.{Has}
use Rattle.xdb_laws.specs.Excises.{is_cut, Excised, IsSilentIn, KeepsTo}
use Rattle.xdb_laws.specs.Loads.{AreLoadable, AreLoadsOf, Install}
use Rattle.xdb_laws.specs.Ordered.{joined, whole}
use Rattle.xdb_laws.specs.Tables.{is_input, tables_in, contents, content_of}

-- A load's edit as plain data: the next number, the load's tables and its span, the version and the hulls of running
-- compactions; what becomes of a table that the span meets; the loaded tables, each with its level; and the edit.
pub record LoadEdit : Type 0 where
  pub next : ℕ
  pub tables : List TableOps
  pub out : Option Bounds
  pub levels : LevelLists
  pub running : List Bounds
  pub halves : Table → List Table
  pub loaded : List (ℕ × Table)
  pub edit : Changes

-- the span meets the bounds, where there is one
abbrev pub is_met : Option Bounds → Bounds → Bool
is_met None b = false
is_met (Some out) b = meets out b

-- the version behind it
abbrev pub levels_after : LoadEdit → LevelLists
levels_after x = edited x.levels x.edit

-- the table is a half of one that the span meets, in this level
abbrev pub IsHalfIn : LoadEdit → ℕ → Table → Type 0
IsHalfIn x level h = (t : Table) × Has (tables_of x.levels level) t × IsTrue (is_met x.out (bounds_of t)) × Has (x.halves t) h

-- Tables stand by their greatest numbers, as those of L0 do; and two that have one number don't meet.
abbrev pub StandInTurn : List Table → Type 0
StandInTurn [] = Unit {0}
StandInTurn (t ∷ ts) =
    ((u : Table) → Has ts u → (t.seq_hi ≤ u.seq_hi) × (t.seq_hi ≡ u.seq_hi → meets (bounds_of t) (bounds_of u) ≡ false)) × StandInTurn ts

-- what the edit removes and adds: each table that the span meets goes, its halves come in its level, and so do the
-- loaded tables in theirs
pub record IsEditOf (x : LoadEdit) : Type 0 where
  pub some : 0 < length x.levels
  pub removed : (level : ℕ) (t : Table) → Has (tables_of x.levels level) t → removes x.edit level t ≡ is_met x.out (bounds_of t)
  pub added : (a : ℕ × Table) → Has x.edit.added a ↔ (IsHalfIn x a.0 a.1 ⊎ Has x.loaded a)
  pub inside : (a : ℕ × Table) → Has x.edit.added a → a.0 < length x.levels
  -- each loaded table has its place in the version that the halves leave
  pub virtual : (level : ℕ) (h : Table) → IsHalfIn x level h → h.virt ≡ true
  pub placed : (a : ℕ × Table) → Has x.loaded a → a.0 ≡ place (halved x.levels x.edit) x.running (bounds_of a.1)
  -- the tables of L0 have numbers below the next one, which the loaded ones have
  pub older : (t : Table) → Has (tables_of x.levels 0) t → t.seq_hi < x.next
  pub halved_number : (level : ℕ) (t h : Table) → Has (tables_of x.levels level) t → Has (x.halves t) h → h.seq_hi ≡ t.seq_hi
  pub number : (a : ℕ × Table) → Has x.loaded a → a.1.seq_hi ≡ x.next

-- what the span leaves of tables: halves in place of each that it meets
abbrev pub left_tables : LoadEdit → List Table → List Table
left_tables x ts = flat_map (λ t. if is_met x.out (bounds_of t) then x.halves t else t ∷ []) ts

-- no two have one number as tables
abbrev pub NumbersDiffer : List Table → Type 0
NumbersDiffer [] = Unit {0}
NumbersDiffer (t ∷ ts) = ((u : Table) → Has ts u → t.num ≡ u.num → ⊥) × NumbersDiffer ts

-- two tables whose greatest numbers are equal don't meet
abbrev pub TiesAreApart : List Table → Type 0
TiesAreApart ts =
    (t u : Table) → Has ts t → Has ts u → (t.num ≡ u.num → ⊥) → t.seq_hi ≡ u.seq_hi → meets (bounds_of t) (bounds_of u) ≡ false

-- halves lie inside their table, and no two of one table meet; nor do two loaded tables
pub record HalvesLieApart (x : LoadEdit) : Type 0 where
  pub one : (t u : Table) → Has (tables_of x.levels 0) t → Has (tables_of x.levels 0) u → t.num ≡ u.num → t ≡ u
  pub inside : (t h : Table) → Has (tables_of x.levels 0) t → Has (x.halves t) h → IsTrue (covers (bounds_of t) (bounds_of h))
  pub apart : (t h g : Table) → Has (tables_of x.levels 0) t → Has (x.halves t) h → Has (x.halves t) g → (h.num ≡ g.num → ⊥) → meets (bounds_of h) (bounds_of g) ≡ false
  pub loaded : (a b : ℕ × Table) → Has x.loaded a → Has x.loaded b → (a.1.num ≡ b.1.num → ⊥) → meets (bounds_of a.1) (bounds_of b.1) ≡ false

-- no table that the span meets is an input, by level and number
abbrev pub AreInputsBeside : LoadEdit → List (ℕ × ℕ) → Type 0
AreInputsBeside x inputs =
    (level : ℕ) (t : Table) → Has (tables_of x.levels level) t → IsTrue (is_input inputs level t) → is_met x.out (bounds_of t) ≡ false

module _ (content : Table → List Item) where
  -- the groups say nothing of the fence's keys, and tables have what their files show in their bounds
  pub record IsLoadEdit (groups : List (List Item)) (x : LoadEdit) : Type 0 where
    pub edit : IsEditOf x
    pub before : StandInTurn (tables_of x.levels 0)
    pub after : StandInTurn (tables_of (levels_after x) 0)
    pub span : (k : List ℕ) → IsTrue (is_cut x.out k) → IsSilentAt k (joined groups)
    pub fence : (a : ℕ × Table) → Has x.loaded a → IsSilentIn (bounds_of a.1) (joined groups)
    pub tables : (level : ℕ) (t : Table) → Has (tables_of x.levels level) t → KeepsTo (bounds_of t) (content t)
    pub cut : (level : ℕ) (t : Table) → Has (tables_of x.levels level) t → IsTrue (is_met x.out (bounds_of t))
        → Excised x.out (content t) (content_of content (x.halves t))
    pub halves : (level : ℕ) (h : Table) → IsHalfIn x level h → KeepsTo (bounds_of h) (content h)
    pub loadable : AreLoadable x.tables
    pub loads : AreLoadsOf x.next x.tables (map (λ a. content a.1) x.loaded)
    pub loaded : (a : ℕ × Table) → Has x.loaded a → KeepsTo (bounds_of a.1) (content a.1)

  -- the install of all content that it makes
  abbrev pub install_of : List (List Item) → LoadEdit → Install
  install_of groups x = record {
    next = x.next;
    tables = x.tables;
    out = x.out;
    loads = map (λ a. content a.1) x.loaded;
    old = whole groups (contents content x.levels);
    left = joined groups ++ content_of content (left_tables x (tables_in x.levels));
    new = whole groups (contents content (levels_after x));
  }
