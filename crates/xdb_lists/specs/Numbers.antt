-- Distinct numbers, the least first, and where a search in an ordered list ends.
use Rattle.std.specs.Prelude.{ℕ, ◌<◌, ◌≤◌, ◌≡◌, ◌==◌, Bool, List, length, Result, MatchResult}
use Rattle.std.specs.List.{list_any, HoldsAt}
use Rattle.std.specs.List.Sorted.{IsPartitionPoint}
use Rattle.xdb_lists.specs.Keyed.{IsRising}

abbrev pub is_among : ℕ → List ℕ → Bool
is_among n ns = list_any (λ m. m == n) ns

abbrev pub NumbersRise : List ℕ → Type 0
NumbersRise ns = IsRising (λ n. n) ns

-- the place where a number stands, or else the place before which the keys are on the one side of it and
-- from which on they are on the other
abbrev pub EndsAt : {X : Type 0} → (X → ℕ) → (X → Type 0) → (X → Type 0) → List X → ℕ → Result ℕ ℕ → Type 0
EndsAt key before behind xs num r = MatchResult r (λ at. (at < length xs) × HoldsAt (λ x. key x ≡ num) xs at) (λ at. (at ≤ length xs) × IsPartitionPoint before behind xs at)

-- where the keys rise
abbrev pub EndsRising : {X : Type 0} → (X → ℕ) → List X → ℕ → Result ℕ ℕ → Type 0
EndsRising key xs num r = EndsAt key (λ x. key x < num) (λ x. num < key x) xs num r
