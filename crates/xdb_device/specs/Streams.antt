-- What a pull does to the bytes that it adds to.
use Rattle.std.specs.Prelude.{◌≡◌, ℕ, ◌+◌, List, length, take}

-- n bytes were added behind the old ones
pub record Grew (n : ℕ) (old new : List ℕ) : Type 0 where
  pub front : take (length old) new ≡ old
  pub by : length new ≡ length old + n
