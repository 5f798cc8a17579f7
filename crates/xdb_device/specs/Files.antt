-- What a read of a file adds.
use Rattle.std.specs.Prelude.{◌≡◌, ℕ, Option, IfSome, List, ◌++◌, take, drop}

-- the bytes from `off` on, where the file tells them
abbrev pub AddsFrom : Option (List ℕ) → ℕ → ℕ → List ℕ → List ℕ → Type 0
AddsFrom known off len old new = IfSome known (λ bytes. new ≡ old ++ take len (drop off bytes))
