-- Why operations aren't added to a batch.
use Rattle.std.specs.Prelude.{ℕ, ◌+◌, List, [], ◌∷◌, length, Option, Some, None, nat_lt, nat_le, if◌then◌else◌}
use Rattle.std.specs.Option.{option_or}
use Rattle.xdb_key.specs.Ops.{op_len, batch_len}
use Rattle.xdb_key.specs.declared.TheConstants.{MAX_VALUE}
use Rattle.xdb_key.specs.declared.op.Op.{Op}
use Rattle.xdb_key.specs.declared.op.Op.TheVariants.{Set, Del, DelSpan}
use Rattle.xdb_batch.specs.declared.error.BatchNo.{BatchNo}
use Rattle.xdb_batch.specs.declared.error.BatchNo.TheVariants.{ValueTooLong, TooMany, TooLong}

-- how long the value is; a delete has none
abbrev pub value_len : Op → ℕ
value_len (Set key value) = length value
value_len (Del key) = 0
value_len (DelSpan range) = 0

-- the first limit that one operation more passes, behind `count` operations that take `len` bytes
abbrev pub refusal_at : ℕ → ℕ → Op → Option BatchNo
refusal_at count len op =
    if nat_lt MAX_VALUE (value_len op) then Some (ValueTooLong (value_len op)) else (
    if nat_le 4096 count then Some TooMany else (
    if nat_lt 1048576 (len + op_len op) then Some TooLong else None))

abbrev pub refusal : List Op → Op → Option BatchNo
refusal ops op = refusal_at (length ops) (batch_len ops) op

-- the first refusal of operations that are added one after the other
abbrev pub first_refusal : ℕ → ℕ → List Op → Option BatchNo
first_refusal count len [] = None
first_refusal count len (op ∷ ops) = option_or (refusal_at count len op) (first_refusal (count + 1) (len + op_len op) ops)

-- the first refusal of a whole batch
abbrev pub refusal_of : List Op → Option BatchNo
refusal_of ops = first_refusal 0 (batch_len []) ops
