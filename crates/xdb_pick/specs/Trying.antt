-- The tables of a level that is due, which are tried in turn, and what a try in vain tells of others.
use Rattle.std.specs.Prelude.{◌≡◌, ℕ, Bool, true, ◌||◌, not, List, Option, None, if◌then◌else◌}
use Rattle.std.specs.Borrow.{Bor}
use Rattle.std.specs.List.{list_all, list_any, AllByRecursion}
use Rattle.std.specs.Option.{option_map}
use Rattle.xdb_key.specs.Bounds.{Bounds, meets, covers}
use Rattle.xdb_key.specs.Order.{is_below}
use Rattle.xdb_meta.specs.Table.{Table, bounds_of}
use Rattle.xdb_edit.specs.Plans.{Planned, planned, plan_for, is_due, in_turn, plan_of_first}
use Rattle.xdb_edit.specs.Versions.{LevelLists, tables_of}
use Rattle.xdb_pick.specs.Hulls.{both, lent}

-- the tables of a level, in turn
abbrev pub turn : LevelLists → ℕ → List Table
turn levels level = in_turn level (tables_of levels level)

-- the first plan for one of the tables of a level, where it is due
abbrev pub plan_of_due : LevelLists → List Bounds → ℕ → List Table → Option Planned
plan_of_due levels running level ts = if is_due level ts then plan_of_first levels running level (in_turn level ts) else None

-- that of a level of the version
abbrev pub plan_of_level : LevelLists → List Bounds → ℕ → Option Planned
plan_of_level levels running level = plan_of_due levels running level (tables_of levels level)

-- the first plan for one of these tables, which are lent
abbrev pub first_of : LevelLists → List Bounds → ℕ → List (Bor Table) → Option Planned
first_of levels running level ts = plan_of_first levels running level (lent ts)

abbrev pub plan_of_table : LevelLists → List Bounds → ℕ → Table → Option Planned
plan_of_table levels running level t = plan_for levels running level (bounds_of t)

-- the plan over a hull, where there is one
abbrev pub over : LevelLists → ℕ → Option Bounds → Option Planned
over levels level hull = option_map (planned levels level) hull

-- whatever holds of each table of the level holds of it
abbrev pub IsTableOf : LevelLists → ℕ → Table → Type 0
IsTableOf levels level t = (p : Table → Bool) → list_all p (tables_of levels level) ≡ true → p t ≡ true

-- and of each of these
abbrev pub AreTablesOf : LevelLists → ℕ → List Table → Type 0
AreTablesOf levels level ts = (p : Table → Bool) → list_all p (tables_of levels level) ≡ true → list_all p ts ≡ true

-- the range has the other whole where it meets it
abbrev pub takes_whole : Bounds → Bounds → Bool
takes_whole c r = not (meets c r) || covers c r

-- each table that the range meets lies in it
abbrev pub is_full : Bounds → List Table → Bool
is_full c ts = list_all (λ t. takes_whole c (bounds_of t)) ts

-- A full hull that a running compaction meets. It has no gap: each full range that meets it has all of it, so
-- the hull of a plan for a table within it is this one.
pub record IsShut (levels : LevelLists) (running : List Bounds) (level : ℕ) (h : Bounds) : Type 0 where
  pub met : list_any (meets h) running ≡ true
  pub full : is_full h (both levels level) ≡ true
  pub whole : (c : Bounds) → is_below c.lo c.hi ≡ true → is_full c (both levels level) ≡ true → meets c h ≡ true → covers c h ≡ true

abbrev pub AreShut : LevelLists → List Bounds → ℕ → List Bounds → Type 0
AreShut levels running level hs = AllByRecursion (IsShut levels running level) hs
