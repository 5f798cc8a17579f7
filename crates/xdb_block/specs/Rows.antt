-- What a block holds: rows, each an internal key with what stands behind it, and which rows make a block.
use Rattle.std.specs.Prelude.{ℕ, ◌+◌, ◌-◌, ◌%◌, Bool, true, false, ◌&&◌, ◌||◌, List, [], ◌∷◌, length, take, drop, slice_index_or, ◌≤◌, Option, Some, None, Result, Ok, Err, IsTrue, nat_le, nat_lt, ◌==◌, if◌then◌else◌}
use Rattle.std.specs.List.{prefix_len}
use Rattle.std.specs.Ordering.{is_lt, is_eq}
use Rattle.byteorder.specs.Endian.{little_number}
use Rattle.xdb_key.specs.Kinds.{internal_cmp, kind_code}
use Rattle.xdb_key.specs.Order.{key_cmp, is_below, is_upto}
use Rattle.xdb_key.specs.Reading.{◌>>=◌}
use Rattle.xdb_key.specs.Varint.{varint_at}
use Rattle.xdb_key.specs.declared.TheConstants.{MAX_KEY, MAX_BOUND}
use Rattle.xdb_key.specs.declared.error.VarintNo.{VarintNo}
use Rattle.xdb_key.specs.declared.op.Kind.TheVariants as kinds
use Rattle.xdb_block.specs.declared.kind.BlockKind.{BlockKind}
use Rattle.xdb_block.specs.declared.kind.BlockKind.TheVariants.{Point, Spans, Index}

-- an internal key and what stands behind it: a value, the end of a span, or where a point block lies
pub record Row : Type 0 where
  pub key : List ℕ
  pub value : List ℕ

abbrev pub row : List ℕ → List ℕ → Row
row key value = record { key = key; value = value }

-- an internal key without its last 8 bytes
abbrev pub user_part : List ℕ → List ℕ
user_part key = take (length key - 8) key

-- the number in its last 8 bytes: sequence number times 256 and code of the kind
abbrev pub trailer_part : List ℕ → ℕ
trailer_part key = if nat_lt (length key) 8 then 0 else little_number 8 (drop (length key - 8) key)

-- An internal key stands before the one of a user key and a trailer: by user key, and at one user key the
-- greatest trailer first.
abbrev pub is_before : List ℕ → ℕ → List ℕ → Bool
is_before user trailer key = is_lt (internal_cmp (user_part key) (trailer_part key) user trailer)

-- an internal key stands before another
abbrev pub precedes : List ℕ → List ℕ → Bool
precedes a b = is_before (user_part b) (trailer_part b) a

abbrev pub is_within : ℕ → ℕ → ℕ → Bool
is_within least most n = nat_le least n && nat_le n most

-- the key of a point: of a user key, and of a delete or a set
abbrev pub is_point_key : List ℕ → Bool
is_point_key key = is_within 1 MAX_KEY (length (user_part key)) && nat_le (trailer_part key % 256) (kind_code kinds.Set)

-- the key of a span: of a bound, and of a range delete
abbrev pub is_span_key : List ℕ → Bool
is_span_key key = is_within 1 MAX_BOUND (length (user_part key)) && (trailer_part key % 256 == kind_code kinds.SpanDel)

-- a reading that took all bytes
abbrev pub is_whole : {A : Type 0} → Result (A × List ℕ) VarintNo → Bool
is_whole (Ok x) = length x.1 == 0
is_whole (Err e) = false

-- where a point block lies: its offset and its length as two varints, and nothing else
abbrev pub is_handle : List ℕ → Bool
is_handle value = is_whole (varint_at value >>= λ offset. varint_at offset.1)

-- a row that a block of the kind may have
abbrev pub suits : BlockKind → Row → Bool
suits Point r = is_point_key r.key && ((trailer_part r.key % 256 == kind_code kinds.Set) || (length r.value == 0))
suits Spans r = is_span_key r.key && is_within 1 MAX_BOUND (length r.value) && is_below (user_part r.key) r.value
suits Index r = is_point_key r.key && is_handle r.value

-- two spans with equal bounds, or the second behind the first
abbrev pub is_apart : Row → Row → Bool
is_apart last r = (is_eq (key_cmp (user_part last.key) (user_part r.key)) && is_eq (key_cmp last.value r.value)) || is_upto last.value (user_part r.key)

-- the bounds of spans may not cross; nothing is asked of other rows
abbrev pub may_follow : BlockKind → Row → Row → Bool
may_follow Point last r = true
may_follow Spans last r = is_apart last r
may_follow Index last r = true

-- a row behind the one before it, if there is one
abbrev pub follows : BlockKind → Option Row → Row → Bool
follows kind None r = suits kind r
follows kind (Some last) r = suits kind r && precedes last.key r.key && may_follow kind last r

abbrev pub Follow : BlockKind → Option Row → List Row → Type 0
Follow kind last [] = Unit {0}
Follow kind last (r ∷ rs) = IsTrue (follows kind last r) × Follow kind (Some r) rs

-- rows of one kind of block
abbrev pub AreRows : BlockKind → List Row → Type 0
AreRows kind rows = (1 ≤ length rows) × Follow kind None rows

-- internal keys that rise strictly, behind a key if there is one
abbrev pub Rise : Option (List ℕ) → List (List ℕ) → Type 0
Rise last [] = Unit {0}
Rise None (key ∷ keys) = Rise (Some key) keys
Rise (Some last) (key ∷ keys) = IsTrue (precedes last key) × Rise (Some key) keys

-- how many bytes the internal keys of rows are
abbrev pub keys_len : List Row → ℕ
keys_len [] = 0
keys_len (r ∷ rs) = length r.key + keys_len rs

-- the row at a place
abbrev pub nth : List Row → ℕ → Row
nth rows i = slice_index_or rows i (row [] [])

-- the least place whose key isn't before the internal key
abbrev pub place_from : List ℕ → ℕ → List Row → ℕ
place_from user trailer rows = prefix_len (λ r. is_before user trailer r.key) rows
