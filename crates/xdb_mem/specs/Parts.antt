-- What the groups have in a range, at numbers below a limit.
use Rattle.std.specs.Prelude.{ℕ, Bool, ◌&&◌, List, map, Option, Some, None, nat_lt, if◌then◌else◌}
use Rattle.std.specs.List.{filter, filter_map}
use Rattle.xdb_key.specs.Bounds.{Bounds, holds}
use Rattle.xdb_key.specs.Entries.{Point, Tombstone, tombstone}
use Rattle.xdb_key.specs.declared.op.Op.{Op}
use Rattle.xdb_key.specs.declared.op.Op.TheVariants.{Set, Del, DelSpan}
use Rattle.xdb_rangedel.specs.Clip.{part_in}
use Rattle.xdb_rangedel.specs.Content.{Item, entry, span, seq_of}
use Rattle.xdb_mem.specs.Numbered.{points, spans}

-- entries in internal order, and fragments
pub record Parts : Type 0 where
  pub entries : List Point
  pub spans : List Tombstone

-- the entry's key lies in the range, and its number is below the limit
abbrev pub is_picked : Bounds → ℕ → Point → Bool
is_picked range limit p = holds range p.key && nat_lt p.seq limit

abbrev pub picked : Bounds → ℕ → List (ℕ × Op) → List Point
picked range limit ops = filter (is_picked range limit) (points ops)

-- what the span has in the range, where its number is below the limit
abbrev pub part_below : Bounds → ℕ → Tombstone → Option Tombstone
part_below range limit t = if nat_lt t.seq limit then part_in range t else None

abbrev pub clipped : Bounds → ℕ → List (ℕ × Op) → List Tombstone
clipped range limit ops = filter_map (part_below range limit) (spans ops)

-- what an operation is in a content
abbrev pub item_at : ℕ → Op → Item
item_at n (Set key value) = entry key n (Some value)
item_at n (Del key) = entry key n None
item_at n (DelSpan range) = span (tombstone range n)

-- the content of operations
abbrev pub items : List (ℕ × Op) → List Item
items ops = map (λ o. item_at o.0 o.1) ops

abbrev pub items_below : ℕ → List (ℕ × Op) → List Item
items_below limit ops = filter (λ i. nat_lt (seq_of i) limit) (items ops)
