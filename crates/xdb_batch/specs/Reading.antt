-- A batch read from left to right, with the first defect. A reader answers a value and the bytes after it.
-- `end` is the length of the whole input, so a place is `end` less the number of bytes that are left there;
-- `at` is the place of the kind byte of the operation that is read.
use Rattle.std.specs.Prelude.{◌≡◌, ℕ, zero, suc, ◌+◌, ◌-◌, ◌^◌, ◌||◌, List, [], ◌∷◌, length, take, drop, Result, Ok, Err, nat_lt, ◌==◌, if◌then◌else◌}
use Rattle.byteorder.specs.Endian.{little_number}
use Rattle.xdb_key.specs.Bounds.{bounds}
use Rattle.xdb_key.specs.Kinds.{kind_code}
use Rattle.xdb_key.specs.Order.{is_below}
use Rattle.xdb_key.specs.Reading.{◌>>=◌}
use Rattle.xdb_key.specs.Varint.{varint_at}
use Rattle.xdb_key.specs.declared.TheConstants.{MAX_KEY, MAX_BOUND, MAX_VALUE}
use Rattle.xdb_key.specs.declared.error.VarintNo.{VarintNo}
use Rattle.xdb_key.specs.declared.error.VarintNo.TheVariants as numbers
use Rattle.xdb_key.specs.declared.op.Kind.{Kind}
use Rattle.xdb_key.specs.declared.op.Kind.TheVariants as kinds
use Rattle.xdb_key.specs.declared.op.Op.{Op}
use Rattle.xdb_key.specs.declared.op.Op.TheVariants.{Set, Del, DelSpan}
use Rattle.xdb_batch.specs.declared.error.BatchBad.{BatchBad}
use Rattle.xdb_batch.specs.declared.error.BatchBad.TheVariants.{TooLong, Short, TooMany, BadNumbers, BadCount, BadKind, BadVarint, BadKey, Trailing, Memory}

-- a call's refusal is the reader's; want of memory may come at any place
abbrev pub IsDefect : {Y : Type 0} → BatchBad → Result Y BatchBad → Type 0
IsDefect Memory read = Unit {0}
IsDefect bad read = read ≡ Err bad

-- what a call returned, seen by `view`, is what the reader answers, unless memory ran out
abbrev pub Answers : {X Y : Type 0} → (X → Y) → Result X BatchBad → Result Y BatchBad → Type 0
Answers view (Ok x) read = read ≡ Ok (view x)
Answers view (Err bad) read = IsDefect bad read

-- a length, and what its defect is in a batch
abbrev pub len_or : {A : Type 0} → ℕ → ℕ → Result A VarintNo → Result A BatchBad
len_or place end (Ok x) = Ok x
len_or place end (Err numbers.Short) = Err (Short end)
len_or place end (Err numbers.Overlong) = Err (BadVarint place)
len_or place end (Err numbers.TooLarge) = Err (BadVarint place)

unfoldable pub len_at : ℕ → List ℕ → Result (ℕ × List ℕ) BatchBad
len_at end bytes = len_or (end - length bytes) end (varint_at bytes)

-- a string whose length has limits: the length is tested as soon as it was read
unfoldable pub string_at : ℕ → ℕ → ℕ → ℕ → List ℕ → Result (List ℕ × List ℕ) BatchBad
string_at least most at end bytes = do
  len ← len_at end bytes
  if nat_lt len.0 least || nat_lt most len.0 then Err (BadKey at)
      else (if nat_lt (length len.1) len.0 then Err (Short end) else Ok (take len.0 len.1, drop len.0 len.1))

abbrev pub kind_at : ℕ → ℕ → Result Kind BatchBad
kind_at at byte =
    if byte == kind_code kinds.Del then Ok kinds.Del else (
    if byte == kind_code kinds.Set then Ok kinds.Set else (
    if byte == kind_code kinds.SpanDel then Ok kinds.SpanDel else Err (BadKind byte at)))

-- what follows the kind byte; the order of a span's bounds is tested behind both
unfoldable pub body_at : ℕ → ℕ → Kind → List ℕ → Result (Op × List ℕ) BatchBad
body_at at end kinds.Del bytes = do
  key ← string_at 1 MAX_KEY at end bytes
  Ok (Del key.0, key.1)
body_at at end kinds.Set bytes = do
  key ← string_at 1 MAX_KEY at end bytes
  value ← string_at 0 MAX_VALUE at end key.1
  Ok (Set key.0 value.0, value.1)
body_at at end kinds.SpanDel bytes = do
  lo ← string_at 1 MAX_BOUND at end bytes
  hi ← string_at 1 MAX_BOUND at end lo.1
  if is_below lo.0 hi.0 then Ok (DelSpan (bounds lo.0 hi.0), hi.1) else Err (BadKey at)

-- an operation by its kind byte and the bytes behind it
unfoldable pub op_at : ℕ → ℕ → List ℕ → Result (Op × List ℕ) BatchBad
op_at end byte bytes = do
  kind ← kind_at (end - suc (length bytes)) byte
  body_at (end - suc (length bytes)) end kind bytes

-- so many operations more, of those that the batch states
unfoldable pub ops_at : ℕ → ℕ → ℕ → List ℕ → Result (List Op × List ℕ) BatchBad
ops_at stated end zero bytes = Ok ([], bytes)
ops_at stated end (suc left) [] = Err (BadCount stated (stated - suc left))
ops_at stated end (suc left) (byte ∷ bytes) = do
  op ← op_at end byte bytes
  ops ← ops_at stated end left op.1
  Ok (op.0 ∷ ops.0, ops.1)

-- the first number and the count
unfoldable pub header_at : List ℕ → Result (ℕ × ℕ) BatchBad
header_at bytes =
    let end = length bytes in
    let first = little_number 8 bytes in
    let count = little_number 4 (drop 8 bytes) in
    if nat_lt 1048576 end then Err TooLong else (
    if nat_lt end 12 then Err (Short end) else (
    if nat_lt 4096 count then Err TooMany else (
    if first == 0 || nat_lt (2 ^ 56) (first + count) then Err BadNumbers else (
    if count == 0 then Err (BadCount 0 0) else Ok (first, count)))))

-- a whole batch
unfoldable pub batch_at : List ℕ → Result (ℕ × List Op) BatchBad
batch_at bytes = do
  header ← header_at bytes
  ops ← ops_at header.1 (length bytes) header.1 (drop 12 bytes)
  if length ops.1 == 0 then Ok (header.0, ops.0) else Err (Trailing (length bytes - length ops.1))
