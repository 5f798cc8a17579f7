-- Operations: the keys that they speak of, and the lists of them that make a table or a batch.
use Rattle.std.specs.Prelude.{ℕ, ◌+◌, Bool, true, ◌&&◌, List, [], ◌∷◌, length, map, sum, Option, Some, None, nat_le, is_none, if◌then◌else◌}
use Rattle.std.specs.List.{list_any}
use Rattle.xdb_key.specs.Bounds.{Bounds, key_hull, meets}
use Rattle.xdb_key.specs.Order.{is_below}
use Rattle.xdb_key.specs.Varint.{varint_len}
use Rattle.xdb_key.specs.declared.op.Op.{Op}
use Rattle.xdb_key.specs.declared.op.Op.TheVariants.{Set, Del, DelSpan}

-- the keys that an operation speaks of
abbrev pub op_hull : Op → Bounds
op_hull (Set key value) = key_hull key
op_hull (Del key) = key_hull key
op_hull (DelSpan range) = range

-- it speaks of a key in one of the ranges
abbrev pub touches : Op → List Bounds → Bool
touches op ranges = list_any (meets (op_hull op)) ranges

-- the key of a point
abbrev pub point_key : Op → Option (List ℕ)
point_key (Set key value) = Some key
point_key (Del key) = Some key
point_key (DelSpan range) = None

-- a key comes after the key before it, if there is one
abbrev pub rises : Option (List ℕ) → List ℕ → Bool
rises None key = true
rises (Some last) key = is_below last key

-- the key of the last point so far
abbrev pub last_key : Option (List ℕ) → Op → Option (List ℕ)
last_key last (Set key value) = Some key
last_key last (Del key) = Some key
last_key last (DelSpan range) = last

-- a point keeps the order where its key rises, and a span always does
abbrev pub keeps_order : Option (List ℕ) → Op → Bool
keeps_order last (Set key value) = rises last key
keeps_order last (Del key) = rises last key
keeps_order last (DelSpan range) = true

-- The place of the first point whose key isn't greater than that of the point before it.
-- `last` is the key of the point before the list, and `at` the place of the list's first operation.
abbrev pub disorder_after : Option (List ℕ) → ℕ → List Op → Option ℕ
disorder_after last at [] = None
disorder_after last at (op ∷ ops) =
    if keeps_order last op then disorder_after (last_key last op) (at + 1) ops else Some at

abbrev pub disorder : List Op → Option ℕ
disorder ops = disorder_after None 0 ops

-- what makes an external table: 1 to 4,096 operations whose points rise strictly
abbrev pub is_table : List Op → Bool
is_table ops = nat_le 1 (length ops) && nat_le (length ops) 4096 && is_none (disorder ops)

-- how many bytes a string takes: its length, and then its bytes
abbrev pub string_len : List ℕ → ℕ
string_len bytes = varint_len (length bytes) + length bytes

-- how many bytes an operation takes in a batch: its kind, its key and what follows the key
abbrev pub op_len : Op → ℕ
op_len (Set key value) = 1 + string_len key + string_len value
op_len (Del key) = 1 + string_len key
op_len (DelSpan range) = 1 + string_len range.lo + string_len range.hi

-- how many bytes a batch takes: its first number, its count and its operations
abbrev pub batch_len : List Op → ℕ
batch_len ops = 12 + sum (map op_len ops)
