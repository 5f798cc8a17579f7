-- The order of keys and bounds: bytewise, a proper prefix first.
use Rattle.std.specs.Prelude.{ℕ, Bool, List}
use Rattle.std.specs.declared.cmp.Ordering.{Ordering}
use Rattle.std.specs.Ordering.{nat_cmp, is_lt, is_le}
use Rattle.std.specs.Cmp.Lexicographic.{slice_cmp}

abbrev pub key_cmp : List ℕ → List ℕ → Ordering
key_cmp = slice_cmp nat_cmp

-- the first stands before the second
abbrev pub is_below : List ℕ → List ℕ → Bool
is_below a b = is_lt (key_cmp a b)

-- the first stands before the second, or is it
abbrev pub is_upto : List ℕ → List ℕ → Bool
is_upto a b = is_le (key_cmp a b)
