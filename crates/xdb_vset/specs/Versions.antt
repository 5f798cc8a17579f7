-- Versions in use, by number, and how often each is held.
use Rattle.std.specs.Prelude.{ℕ, ◌==◌, List, if◌then◌else◌}
use Rattle.std.specs.Option.{option_map, unwrap_or}
use Rattle.xdb_edit.specs.Versions.{LevelLists}
use Rattle.xdb_lists.specs.Keyed.{at_key}
use Rattle.xdb_vset.specs.declared.older.InUse.{InUse}

-- a version: how many edits it came of, and its tables
pub record Numbered : Type 0 where
  pub num : ℕ
  pub levels : LevelLists

-- the version that is in use
abbrev pub version_in : InUse → Numbered
version_in v = record { num = v.num; levels = v.levels }

-- how many holds are kept for the version of this number
abbrev pub holds_of : ℕ → InUse → List InUse → ℕ
holds_of v current older = if current.num == v then current.holds else unwrap_or (option_map (λ w. w.holds) (at_key (λ w. w.num) v older)) 0
