-- Range tombstones cut into pieces at their bounds: two pieces have equal bounds, or are disjoint.
use Rattle.std.specs.Prelude.{◌≡◌, ℕ, Bool, false, ◌&&◌, ◌||◌, List, [], ◌∷◌, ◌++◌, nat_lt, IsTrue, if◌then◌else◌}
use Rattle.std.specs.List.{All, AllPairs}
use Rattle.std.specs.Ordering.{eq_by_cmp}
use Rattle.xdb_key.specs.Order.{key_cmp, is_below, is_upto}
use Rattle.xdb_key.specs.Bounds.{bounds, covers}
use Rattle.xdb_key.specs.Entries.{Tombstone, tombstone}
use Rattle.xdb_rangedel.specs.Members.{Has}

-- the starts and ends
abbrev pub ends : List Tombstone → List (List ℕ)
ends [] = []
ends (t ∷ ts) = t.range.lo ∷ t.range.hi ∷ ends ts

-- the bound lies inside the span
abbrev pub splits : List ℕ → Tombstone → Bool
splits at t = is_below t.range.lo at && is_below at t.range.hi

-- a span, in two where the bound lies inside it
abbrev pub cut_span : List ℕ → Tombstone → List Tombstone
cut_span at t =
    if splits at t then tombstone (bounds t.range.lo at) t.seq ∷ tombstone (bounds at t.range.hi) t.seq ∷ [] else t ∷ []

-- each span cut at the bound
abbrev pub cut_spans : List ℕ → List Tombstone → List Tombstone
cut_spans at [] = []
cut_spans at (t ∷ ts) = cut_span at t ++ cut_spans at ts

-- each span cut at one bound after the other
abbrev pub cut_all : List (List ℕ) → List Tombstone → List Tombstone
cut_all [] ts = ts
cut_all (at ∷ ats) ts = cut_all ats (cut_spans at ts)

-- each span cut at every bound of a span that lies inside it
abbrev pub pieces : List Tombstone → List Tombstone
pieces ts = cut_all (ends ts) ts

-- the two have equal bounds and the first has the greater number, or the first ends where the second starts or before
abbrev pub precedes : Tombstone → Tombstone → Bool
precedes s t =
    (eq_by_cmp key_cmp s.range.lo t.range.lo && eq_by_cmp key_cmp s.range.hi t.range.hi && nat_lt t.seq s.seq)
    || is_upto s.range.hi t.range.lo

-- the start stands before the end
abbrev pub is_ordered : Tombstone → Bool
is_ordered t = is_below t.range.lo t.range.hi

-- in order of start, and at one start the greatest number first; any two have equal bounds and different numbers, or are disjoint
pub record AreFragments (ts : List Tombstone) : Type 0 where
  pub ordered : All (λ t. IsTrue (is_ordered t)) ts
  pub apart : AllPairs (λ s t. IsTrue (precedes s t)) ts

-- a part of a span of the list, with its number, from one bound of a span to another, and no bound lies inside it
pub record IsPiece (ts : List Tombstone) (t : Tombstone) : Type 0 where
  pub source : (s : Tombstone) × Has ts s × IsTrue (covers s.range t.range) × (s.seq ≡ t.seq)
  pub ordered : IsTrue (is_ordered t)
  pub start : Has (ends ts) t.range.lo
  pub end : Has (ends ts) t.range.hi
  pub whole : (at : List ℕ) → Has (ends ts) at → splits at t ≡ false
