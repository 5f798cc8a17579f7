-- Lists in the order of a number that each element has for itself.
use Rattle.std.specs.Prelude.{ℕ, ◌<◌, ◌==◌, not, List, Option, map, if◌then◌else◌}
use Rattle.std.specs.List.{AllPairs, find, filter}

abbrev pub IsRising : {X : Type 0} → (X → ℕ) → List X → Type 0
IsRising key xs = AllPairs (λ a b. key a < key b) xs

-- the element of this number
abbrev pub at_key : {X : Type 0} → (X → ℕ) → ℕ → List X → Option X
at_key key n xs = find (λ x. key x == n) xs

-- the others
abbrev pub without : {X : Type 0} → (X → ℕ) → ℕ → List X → List X
without key n xs = filter (λ x. not (key x == n)) xs

-- the same with this element in place of the one of the number
abbrev pub replaced : {X : Type 0} → (X → ℕ) → X → ℕ → List X → List X
replaced key r n xs = map (λ x. if key x == n then r else x) xs
