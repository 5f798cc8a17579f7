-- The halves of a view at a span: what the view holds before the span's start, and what it holds from the span's end on.
use Rattle.std.specs.Prelude.{◌≡◌, ℕ, Bool, ◌||◌, List, [], map, Option, None, IfSome, Result, Ok, if◌then◌else◌}
use Rattle.xdb_key.specs.Bounds.{Bounds, key_hull}
use Rattle.xdb_key.specs.Entries.{Reach, reach}
use Rattle.xdb_key.specs.Order.{is_below}
use Rattle.xdb_rangedel.specs.Content.{Item, entry, span}
use Rattle.xdb_rangedel.specs.View.{view}
use Rattle.xdb_block.specs.Rows.{Row}
use Rattle.xdb_table_r.specs.Contents.{content_in}
use Rattle.xdb_table_r.specs.Points.{points_at}
use Rattle.xdb_table_r.specs.Reaches.{IsExtentOf, LiesWithin, range_before, range_from}
use Rattle.xdb_table_r.specs.Views.{Shown, keys_of}
use Rattle.xdb_halves.specs.declared.sides.Halves.{Halves}

-- the keys that are shown before a span, and those that are shown behind it
abbrev pub left_of : Bounds → Bounds → Bounds
left_of shown out = range_before shown out.lo

abbrev pub right_of : Bounds → Bounds → Bounds
right_of shown out = range_from shown out.hi

abbrev pub has_keys : Bounds → Bool
has_keys r = is_below r.lo r.hi

-- the extent of one item: the hull of an entry's key, or a span's range, and its number
abbrev pub item_reach : Item → Reach
item_reach (entry key seq value) = reach (key_hull key) seq seq
item_reach (span t) = reach t.range t.seq t.seq

-- the extent of a content: the least one around its items, and none where it has none
abbrev pub IsExtent : List Item → Option Reach → Type 0
IsExtent c e = IsExtentOf (map item_reach c) e

-- Each half is the extent of a view of the content: of the one that ends where the span starts, and of the one that
-- starts where the span ends.
pub record AreHalves (c : List Item) (synthetic : ℕ) (shown out : Bounds) (h : Halves) : Type 0 where
  pub left : IsExtent (view c (left_of shown out) synthetic) h.left
  pub right : IsExtent (view c (right_of shown out) synthetic) h.right

-- neither half is there
abbrev pub HasNone : Halves → Type 0
HasNone h = (h.left ≡ None) × (h.right ≡ None)

-- The point rows that halves are made of. Where no key is shown on either side, none are read.
abbrev pub rows_beside : {F : Type 0} → Shown F → Bounds → List ℕ → Result (List Row) ℕ
rows_beside v out file = if has_keys (left_of (keys_of v) out) || has_keys (right_of (keys_of v) out) then points_at v.table.index file else Ok []

-- the halves of a view, where its table has these point rows
abbrev pub AreHalvesOf : {F : Type 0} → Shown F → Bounds → Halves → List Row → Type 0
AreHalvesOf v out h rows = AreHalves (content_in rows v.table.spans) v.synthetic (keys_of v) out h

-- each half lies inside the bounds that are shown, and on its side of the span
pub record LieBeside (shown out : Bounds) (h : Halves) : Type 0 where
  pub left : IfSome h.left (LiesWithin (left_of shown out))
  pub right : IfSome h.right (LiesWithin (right_of shown out))
