-- Versions in use, and the files that they stand on.
use Rattle.std.specs.Prelude.{◌≡◌, ℕ, List, ◌∷◌, ◌++◌, map}
use Rattle.xdb_rangedel.specs.Members.{Has}
use Rattle.xdb_plain.specs.Counts.{referenced, counts}
use Rattle.xdb_plain.specs.Legal.{after_all}
use Rattle.xdb_plain.specs.State.{Plain, Version}
use Rattle.xdb_plain.specs.declared.note.Note.{Note}

-- a version of this number is in use
pub record IsReferenced (p : Plain) (num : ℕ) : Type 0 where
  pub version : Version
  pub among : Has (referenced p) version
  pub same_num : version.num ≡ num

-- the file has a count
abbrev pub IsCounted : Plain → ℕ → Type 0
IsCounted p backing = Has (map (λ c. c.0) (counts p)) backing

-- the current version and those that are held
abbrev pub standing : Plain → List Version
standing p = p.current ∷ map (λ h. h.version) p.holds

-- the version was the current one after some of the notes
pub record WasCurrent (p : Plain) (notes : List Note) (version : Version) : Type 0 where
  pub before : List Note
  pub behind : List Note
  pub split : notes ≡ before ++ behind
  pub same : version ≡ (after_all p before).current
