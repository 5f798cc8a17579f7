-- What holds of the levels of a version, and what is asked of them.
use Rattle.std.specs.Prelude.{ℕ, ◌≡◌, ◌≤◌, List, length, map, IsTrue}
use Rattle.xdb_key.specs.Bounds.{Bounds}
use Rattle.xdb_meta.specs.Table.{Table}
use Rattle.xdb_edit.specs.Versions.{LevelLists, tables_of, are_sorted, are_disjoint, have_ranges}
use Rattle.xdb_edit.specs.Plans.{meeting}

-- so many levels, from 1 to 16, each in its order, and those above L0 without an overlap
pub record IsLevels (n : ℕ) (levels : LevelLists) : Type 0 where
  pub some : 1 ≤ n
  pub few : n ≤ 16
  pub count : length levels ≡ n
  pub ranges : IsTrue (have_ranges levels)
  pub sorted : IsTrue (are_sorted levels)
  pub disjoint : IsTrue (are_disjoint levels)

-- the numbers of the tables
abbrev pub numbers : List Table → List ℕ
numbers ts = map (λ t. t.num) ts

-- the tables of a level whose bounds meet the range, in the order of the level
abbrev pub met : LevelLists → ℕ → Bounds → List Table
met levels level range = meeting range (tables_of levels level)

-- the same by number
abbrev pub overlapping : LevelLists → ℕ → Bounds → List ℕ
overlapping levels level range = numbers (met levels level range)
