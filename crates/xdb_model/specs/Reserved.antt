-- Numbers that notes reserve.
use Rattle.std.specs.Prelude.{ℕ, ◌+◌, ◌≤◌, List, [], ◌∷◌}
use Rattle.std.specs.List.{AllByRecursion}
use Rattle.xdb_rangedel.specs.Members.{Has}
use Rattle.xdb_plain.specs.Reservations.{reserved_in}
use Rattle.xdb_plain.specs.State.{Plain}
use Rattle.xdb_plain.specs.declared.note.Note.{Note}

-- the numbers rise strictly, none is below the first one, and all are below the second one
abbrev pub RiseWithin : ℕ → ℕ → List ℕ → Type 0
RiseWithin low high [] = low ≤ high
RiseWithin low high (n ∷ ns) = (low ≤ n) × RiseWithin (n + 1) high ns

-- each of the numbers is one that the notes reserve
abbrev pub AreReserved : Plain → List Note → List ℕ → Type 0
AreReserved p notes ns = AllByRecursion (Has (reserved_in p notes)) ns
