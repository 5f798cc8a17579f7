-- Tables named by level and number.
use Rattle.std.specs.Prelude.{ℕ, suc, Bool, ◌&&◌, List, [], ◌∷◌, ◌++◌, map, ◌==◌}
use Rattle.std.specs.declared.cmp.Ordering.{Ordering}
use Rattle.std.specs.List.{list_any}
use Rattle.std.specs.Ordering.{nat_cmp, ordering_then}
use Rattle.xdb_edit.specs.Versions.{LevelLists}

-- by level, then by number
abbrev pub name_cmp : ℕ × ℕ → ℕ × ℕ → Ordering
name_cmp a b = ordering_then (nat_cmp a.0 b.0) (nat_cmp a.1 b.1)

-- the name is among the names
abbrev pub is_named : List (ℕ × ℕ) → ℕ → ℕ → Bool
is_named names level num = list_any (λ r. r.0 == level && r.1 == num) names

-- the names of all tables, from the level of the first list on
abbrev pub names_from : ℕ → LevelLists → List (ℕ × ℕ)
names_from level [] = []
names_from level (ts ∷ rest) = map (λ t. (level, t.num)) ts ++ names_from (suc level) rest
