-- What a batch is, and its one spelling. Numbers of fixed width have their lowest byte first. The number of
-- an operation is the batch's first number and the operation's place, counted from 0.
use Rattle.std.specs.Prelude.{◌≡◌, ℕ, ◌+◌, ◌≤◌, ◌^◌, List, ◌∷◌, ◌++◌, length, IsTrue}
use Rattle.std.specs.List.{flat_map, AllByRecursion}
use Rattle.byteorder.specs.Endian.{little_bytes}
use Rattle.xdb_key.specs.Kinds.{kind_code}
use Rattle.xdb_key.specs.Limits.{IsKey, IsBound, IsValue}
use Rattle.xdb_key.specs.Ops.{batch_len}
use Rattle.xdb_key.specs.Order.{is_below}
use Rattle.xdb_key.specs.Varint.{varint}
use Rattle.xdb_key.specs.declared.op.Kind.TheVariants as kinds
use Rattle.xdb_key.specs.declared.op.Op.{Op}
use Rattle.xdb_key.specs.declared.op.Op.TheVariants.{Set, Del, DelSpan}

-- a string: its length, and then its bytes
abbrev pub string : List ℕ → List ℕ
string bytes = varint (length bytes) ++ bytes

-- an operation: the byte of its kind, its key, and behind the key the value or the end of the span
abbrev pub op_bytes : Op → List ℕ
op_bytes (Set key value) = kind_code kinds.Set ∷ (string key ++ string value)
op_bytes (Del key) = kind_code kinds.Del ∷ string key
op_bytes (DelSpan range) = kind_code kinds.SpanDel ∷ (string range.lo ++ string range.hi)

-- a batch: its first number in 8 bytes, its count in 4, and its operations
abbrev pub batch_bytes : ℕ → List Op → List ℕ
batch_bytes first ops = little_bytes 8 first ++ little_bytes 4 (length ops) ++ flat_map op_bytes ops

-- the lengths of keys, bounds and values are within their limits, and a span isn't empty
abbrev pub IsOp : Op → Type 0
IsOp (Set key value) = IsKey key × IsValue value
IsOp (Del key) = IsKey key
IsOp (DelSpan range) = IsBound range.lo × IsBound range.hi × IsTrue (is_below range.lo range.hi)

-- what a batch may hold: at most 4,096 operations, in at most 1,048,576 bytes
pub record AreOps (ops : List Op) : Type 0 where
  pub few : length ops ≤ 4096
  pub each : AllByRecursion IsOp ops
  pub short : batch_len ops ≤ 1048576

-- what has a spelling: a batch that isn't empty, whose numbers are at least 1 and below 2^56
pub record IsBatch (first : ℕ) (ops : List Op) : Type 0 where
  pub limits : AreOps ops
  pub some : 1 ≤ length ops
  pub from : 1 ≤ first
  pub upto : first + length ops ≤ 2 ^ 56

-- what is kept of a batch: its operations, and how many bytes they take
pub record IsKept (ops : List Op) (len : ℕ) : Type 0 where
  pub limits : AreOps ops
  pub counted : len ≡ batch_len ops
