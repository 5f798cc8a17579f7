-- Which edits are applied, and why others aren't.
use Rattle.std.specs.Prelude.{ℕ, Bool, ◌&&◌, Option, nat_lt}
use Rattle.std.specs.List.{list_all}
use Rattle.std.specs.Option.{option_map}
use Rattle.xdb_edit.specs.Changes.{Changes}
use Rattle.xdb_edit.specs.Versions.{LevelLists, edited, missing, overlap, or_else}
use Rattle.xdb_levels.specs.declared.error.ApplyNo.{ApplyNo}
use Rattle.xdb_levels.specs.declared.error.ApplyNo.TheVariants.{NoSuchTable, Overlap}

-- each level that the edit names is below the number
abbrev pub names_below : ℕ → Changes → Bool
names_below n e = list_all (λ r. nat_lt r.0 n) e.removed && list_all (λ a. nat_lt a.0 n) e.added

-- the first removed table that isn't there; or else the first two neighbours that meet afterwards
abbrev pub refusal : LevelLists → Changes → Option ApplyNo
refusal levels e = or_else (option_map (λ num. NoSuchTable num) (missing levels e)) (option_map (λ p. Overlap p.0 p.1) (overlap (edited levels e)))
