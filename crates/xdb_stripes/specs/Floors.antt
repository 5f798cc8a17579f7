-- The floor: the keys at which older content may lie below what is written, all keys or those of some ranges.
use Rattle.std.specs.Prelude.{ℕ, Bool, true, List}
use Rattle.std.specs.List.{list_any}
use Rattle.xdb_key.specs.Bounds.{Bounds, holds, meets}
use Rattle.xdb_stripes.specs.declared.floor.Floor.{Floor}
use Rattle.xdb_stripes.specs.declared.floor.Floor.TheVariants.{All, Ranges}

-- older content may lie at the key
abbrev pub floor_holds : Floor → List ℕ → Bool
floor_holds All k = true
floor_holds (Ranges rs) k = list_any (λ r. holds r k) rs

-- older content may lie in the range
abbrev pub floor_meets : Floor → Bounds → Bool
floor_meets All range = true
floor_meets (Ranges rs) range = list_any (λ r. meets r range) rs
