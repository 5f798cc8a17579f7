-- How fragments are found: gaps between neighbouring bounds, and the numbers of the spans over them.
use Rattle.std.specs.Prelude.{◌≡◌, ◌↔◌, ◌==◌, ℕ, zero, suc, ◌<◌, ◌≤◌, ◌^◌, Bool, ◌&&◌, ◌||◌, List, [], ◌∷◌, ◌++◌, length, map, get_or, nat_lt, nat_le, IsTrue, if◌then◌else◌}
use Rattle.std.specs.List.{AllPairs}
use Rattle.xdb_key.specs.Order.{is_below, is_upto}
use Rattle.xdb_key.specs.Bounds.{bounds}
use Rattle.xdb_key.specs.Entries.{Tombstone, tombstone}
use Rattle.xdb_rangedel.specs.Members.{Has}
use Rattle.xdb_rangedel.specs.declared.sweep.Strip.{Strip}

-- the span ends at the bound or before
abbrev pub ends_by : List ℕ → Tombstone → Bool
ends_by at t = is_upto t.range.hi at

abbrev pub starts_before : List ℕ → Tombstone → Bool
starts_before at t = is_below t.range.lo at

-- the span ends at the key or before, or starts there and its number isn't below the limit
abbrev pub is_passed : List ℕ → ℕ → Tombstone → Bool
is_passed key limit t = ends_by key t || (is_upto t.range.lo key && nat_le limit t.seq)

-- each bound stands before each later one
abbrev pub IsRising : List (List ℕ) → Type 0
IsRising ats = AllPairs (λ a b. IsTrue (is_below a b)) ats

-- how many bounds of the front stand before this one
abbrev pub place_of : List (List ℕ) → List ℕ → ℕ
place_of [] at = 0
place_of (b ∷ bs) at = if is_below b at then suc (place_of bs at) else 0

-- from the first place on and before the second
abbrev pub is_between : ℕ → ℕ → ℕ → Bool
is_between from to j = nat_le from j && nat_lt j to

-- a span as a strip over gaps: gap j lies between the bounds j and j + 1
abbrev pub strip_of : List (List ℕ) → Tombstone → Strip
strip_of ats t = record { number = record { 0 = t.seq }; from = place_of ats t.range.lo; to = place_of ats t.range.hi }

-- the strip ends within the gaps, and its number is a sequence number
abbrev pub FitsGaps : ℕ → Strip → Type 0
FitsGaps gaps s = (s.to ≤ gaps) × (s.number.0 < 2 ^ 56)

-- the first has the greater number, or at one number starts no later
abbrev pub comes_first : Strip → Strip → Bool
comes_first s t = nat_lt t.number.0 s.number.0 || (t.number.0 == s.number.0 && nat_le s.from t.from)

abbrev pub lies_over : ℕ → Strip → Bool
lies_over j s = is_between s.from s.to j

-- the number is that of a strip over the gap
abbrev pub IsOver : List Strip → ℕ → ℕ → Type 0
IsOver strips j n = (s : Strip) × Has strips s × IsTrue (lies_over j s) × (s.number.0 ≡ n)

-- each column has the numbers of the strips over its gap, the greatest first
pub record AreColumns (strips : List Strip) (gaps : ℕ) (columns : List (List ℕ)) : Type 0 where
  pub count : length columns ≡ gaps
  pub numbers : (j n : ℕ) → j < gaps → Has (get_or columns j []) n ↔ IsOver strips j n
  pub falling : (j : ℕ) → j < gaps → AllPairs (λ m n. n < m) (get_or columns j [])

-- a span for each number, over the gap
abbrev pub over_gap : List ℕ → List ℕ → List ℕ → List Tombstone
over_gap lo hi ns = map (tombstone (bounds lo hi)) ns

-- the spans over the first gaps
abbrev pub laid : List (List ℕ) → List (List ℕ) → ℕ → List Tombstone
laid ats columns zero = []
laid ats columns (suc n) = laid ats columns n ++ over_gap (get_or ats n []) (get_or ats (suc n) []) (get_or columns n [])
