-- Stripes: the intervals that some numbers, which are called stripes too, cut all sequence numbers into.
use Rattle.std.specs.Prelude.{ℕ, ◌+◌, Bool, ◌&&◌, ◌==◌, List, [], ◌∷◌, nat_lt, nat_le, if◌then◌else◌}

-- the stripe of a number: how many of the stripes are at most the number
abbrev pub stripe : List ℕ → ℕ → ℕ
stripe [] n = 0
stripe (s ∷ ss) n = (if nat_le s n then 1 else 0) + stripe ss n

-- the first number is the greater, and both lie in one stripe
abbrev pub outranks : List ℕ → ℕ → ℕ → Bool
outranks stripes m n = nat_lt n m && stripe stripes m == stripe stripes n
