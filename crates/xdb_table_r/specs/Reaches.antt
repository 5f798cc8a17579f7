-- The extent of what a part of a view holds: the least range with the hulls of its points and with its spans, and the
-- least and the greatest of their numbers.
use Rattle.std.specs.Prelude.{◌≡◌, ℕ, ◌≤◌, false, List, [], ◌++◌, map, min, max, Option, None, Some, Result, Ok, Err, IsOkAnd, IsTrue, if◌then◌else◌}
use Rattle.xdb_key.specs.Bounds.{Bounds, bounds, covers, key_hull, lesser, greater}
use Rattle.xdb_key.specs.Entries.{Point, Tombstone, Reach, reach}
use Rattle.xdb_key.specs.Order.{is_below, is_upto}
use Rattle.xdb_rangedel.specs.Clip.{later_of, earlier_of}
use Rattle.xdb_rangedel.specs.Members.{Has}
use Rattle.xdb_block.specs.Rows.{Row}
use Rattle.xdb_table_r.specs.declared.error.TableNo.{TableNo}
use Rattle.xdb_table_r.specs.Opening.{IsNo}
use Rattle.xdb_table_r.specs.Views.{seen_at, spans_in}

-- the extent of one point, and that of one span
abbrev pub point_reach : Point → Reach
point_reach p = reach (key_hull p.key) p.seq p.seq

abbrev pub span_reach : Tombstone → Reach
span_reach t = reach t.range t.seq t.seq

abbrev pub reaches : List Point → List Tombstone → List Reach
reaches ps ts = map point_reach ps ++ map span_reach ts

-- the first lies within the second
pub record IsInside (h e : Reach) : Type 0 where
  pub lo : IsTrue (is_upto e.lo h.lo)
  pub hi : IsTrue (is_upto h.hi e.hi)
  pub seq_lo : e.seq_lo ≤ h.seq_lo
  pub seq_hi : h.seq_hi ≤ e.seq_hi

-- each lies within it, and each of its bounds and numbers is that of one of them
pub record IsLeast (hs : List Reach) (e : Reach) : Type 0 where
  pub each : (h : Reach) → Has hs h → IsInside h e
  pub lo : (h : Reach) × Has hs h × (h.lo ≡ e.lo)
  pub hi : (h : Reach) × Has hs h × (h.hi ≡ e.hi)
  pub seq_lo : (h : Reach) × Has hs h × (h.seq_lo ≡ e.seq_lo)
  pub seq_hi : (h : Reach) × Has hs h × (h.seq_hi ≡ e.seq_hi)

-- none where there is nothing
abbrev pub IsExtentOf : List Reach → Option Reach → Type 0
IsExtentOf hs None = (h : Reach) → Has hs h → ⊥
IsExtentOf hs (Some e) = IsLeast hs e

-- what a call returned stands in a relation to what the bytes read as, or names the first defect
abbrev pub TellsOf : {X Y : Type 0} → ℕ → (X → Y → Type 0) → Result X TableNo → Result Y ℕ → Type 0
TellsOf backing relates (Ok x) read = IsOkAnd read (relates x)
TellsOf backing relates (Err e) read = IsNo backing e read

-- ---- a part of a view

-- the keys of a range before a bound, and those from the bound on
abbrev pub range_before : Bounds → List ℕ → Bounds
range_before r at = bounds r.lo (earlier_of at r.hi)

abbrev pub range_from : Bounds → List ℕ → Bounds
range_from r at = bounds (later_of at r.lo) r.hi

-- the range ends before it begins, or where it begins
abbrev pub IsEmpty : Bounds → Type 0
IsEmpty r = is_below r.lo r.hi ≡ false

-- the points of a range; the file isn't read where the range ends before it begins
abbrev pub part_at : Bounds → ℕ → List Row → List ℕ → Result (List Point) ℕ
part_at r synthetic index file = if is_below r.lo r.hi then seen_at r synthetic index file else Ok []

-- an extent is that of the points and of what the range has of the spans
abbrev pub Reaches : Bounds → ℕ → List Tombstone → Option Reach → List Point → Type 0
Reaches r synthetic ts e ps = IsExtentOf (reaches ps (spans_in r synthetic ts)) e

-- an extent lies in a range
abbrev pub LiesWithin : Bounds → Reach → Type 0
LiesWithin r e = IsTrue (covers r (bounds e.lo e.hi))

-- ---- one more

abbrev pub joined : Reach → Reach → Reach
joined a b = reach (bounds (lesser a.lo b.lo) (greater a.hi b.hi)) (min a.seq_lo b.seq_lo) (max a.seq_hi b.seq_hi)

abbrev pub widened : Option Reach → Reach → Reach
widened None b = b
widened (Some a) b = joined a b
