-- An edit as plain data: what it takes out of a version and what it brings in.
use Rattle.std.specs.Prelude.{ℕ, List, [], ◌++◌}
use Rattle.xdb_meta.specs.Table.{Table}

-- tables removed, by level and number; files that are new; tables added, each with its level
pub record Changes : Type 0 where
  pub removed : List (ℕ × ℕ)
  pub new_backings : List ℕ
  pub added : List (ℕ × Table)

abbrev pub changes : List (ℕ × ℕ) → List ℕ → List (ℕ × Table) → Changes
changes removed new_backings added = record { removed = removed; new_backings = new_backings; added = added }

abbrev pub no_changes : Changes
no_changes = changes [] [] []

-- the lists of one, each followed by those of the other
abbrev pub joined : Changes → Changes → Changes
joined a b = changes (a.removed ++ b.removed) (a.new_backings ++ b.new_backings) (a.added ++ b.added)
