-- Reading an edit from left to right, with the first defect that is met. Each reader takes how many bytes
-- the whole input has and what is left of it, so a place is what came before.
use Rattle.std.specs.Prelude.{◌≡◌, ℕ, zero, suc, ◌-◌, Bool, ◌&&◌, not, List, [], ◌∷◌, length, take, drop, Result, Ok, Err, nat_le, nat_lt, ◌==◌, if◌then◌else◌}
use Rattle.xdb_key.specs.declared.TheConstants.{MAX_BOUND}
use Rattle.xdb_key.specs.declared.error.VarintNo.{VarintNo}
use Rattle.xdb_key.specs.declared.error.VarintNo.TheVariants as varint_no
use Rattle.xdb_key.specs.Bounds.{Bounds, bounds}
use Rattle.xdb_key.specs.Entries.{reach}
use Rattle.xdb_key.specs.Order.{is_below}
use Rattle.xdb_key.specs.Reading.{◌>>=◌}
use Rattle.xdb_key.specs.Varint.{varint_at}
use Rattle.xdb_meta.specs.Table.{Table, table, is_number, is_seq, is_synthetic}
use Rattle.xdb_edit.specs.declared.error.EditBad.{EditBad}
use Rattle.xdb_edit.specs.declared.error.EditBad.TheVariants.{Short, BadTag, BadField, BadOrder, Memory}
use Rattle.xdb_edit.specs.declared.record.Rank.{Rank}
use Rattle.xdb_edit.specs.declared.record.Record.{Record}
use Rattle.xdb_edit.specs.declared.record.Record.TheVariants.{Removed, NewBacking, Added}
use Rattle.xdb_edit.specs.Changes.{Changes}
use Rattle.xdb_edit.specs.Records.{changes_of, rank_of, is_before, front, is_level}

-- what a call failed with is what reading fails with, unless memory ran out
abbrev pub Fails : {Y : Type 0} → EditBad → Result Y EditBad → Type 0
Fails (Short at) read = read ≡ Err (Short at)
Fails (BadTag tag at) read = read ≡ Err (BadTag tag at)
Fails (BadField at) read = read ≡ Err (BadField at)
Fails (BadOrder at) read = read ≡ Err (BadOrder at)
Fails Memory read = Unit {0}

-- what a call returned, seen by `view`, is what reading gives, unless memory ran out
abbrev pub Gives : {X Y : Type 0} → (X → Y) → Result X EditBad → Result Y EditBad → Type 0
Gives view (Ok x) read = read ≡ Ok (view x)
Gives view (Err e) read = Fails e read

-- a varint as a field of a record: what is wrong with it is a defect of the field
abbrev pub as_field : {A : Type 0} → ℕ → ℕ → Result A VarintNo → Result A EditBad
as_field len at (Ok x) = Ok x
as_field len at (Err varint_no.Short) = Err (Short len)
as_field len at (Err varint_no.Overlong) = Err (BadField at)
as_field len at (Err varint_no.TooLarge) = Err (BadField at)

-- a varint as a tag
abbrev pub as_tag : {A : Type 0} → ℕ → ℕ → Result A VarintNo → Result A EditBad
as_tag len at (Ok x) = Ok x
as_tag len at (Err varint_no.Short) = Err (Short len)
as_tag len at (Err varint_no.Overlong) = Err (BadTag 0 at)
as_tag len at (Err varint_no.TooLarge) = Err (BadTag 0 at)

-- a number that is in its field's range, which may depend on the fields before it
unfoldable pub number_at : (ℕ → Bool) → ℕ → List ℕ → Result (ℕ × List ℕ) EditBad
number_at in_range len bytes = do
  n ← as_field len (len - length bytes) (varint_at bytes)
  if in_range n.0 then Ok n else Err (BadField (len - length bytes))

abbrev pub is_bound_len : ℕ → Bool
is_bound_len n = nat_le 1 n && nat_le n MAX_BOUND

-- a bound: its length is tested before its bytes
unfoldable pub bound_at : ℕ → List ℕ → Result (List ℕ × List ℕ) EditBad
bound_at len bytes = do
  n ← number_at is_bound_len len bytes
  if nat_lt (length n.1) n.0 then Err (Short len) else Ok (take n.0 n.1, drop n.0 n.1)

-- two bounds, of which the second is the greater
unfoldable pub range_at : ℕ → List ℕ → Result (Bounds × List ℕ) EditBad
range_at len bytes = do
  lo ← bound_at len bytes
  hi ← bound_at len lo.1
  if is_below lo.0 hi.0 then Ok (bounds lo.0 hi.0, hi.1) else Err (BadField (len - length lo.1))

abbrev pub is_seq_from : ℕ → ℕ → Bool
is_seq_from seq_lo n = is_seq n && nat_le seq_lo n

-- what the record of a table ends with; the table is virtual where its backing is another one's number
unfoldable pub table_at : ℕ → ℕ → ℕ → List ℕ → Result (Table × List ℕ) EditBad
table_at num backing len bytes = do
  range ← range_at len bytes
  seq_lo ← number_at is_seq len range.1
  seq_hi ← number_at (is_seq_from seq_lo.0) len seq_lo.1
  synthetic ← number_at (is_synthetic seq_lo.0 seq_hi.0) len seq_hi.1
  size ← number_at is_number len synthetic.1
  Ok (table num backing (reach range.0 seq_lo.0 seq_hi.0) synthetic.0 size.0 (not (backing == num)), size.1)

unfoldable pub removed_at : ℕ → List ℕ → Result (Record × List ℕ) EditBad
removed_at len bytes = do
  level ← number_at is_level len bytes
  num ← number_at is_number len level.1
  Ok (Removed level.0 num.0, num.1)

unfoldable pub new_backing_at : ℕ → List ℕ → Result (Record × List ℕ) EditBad
new_backing_at len bytes = do
  num ← number_at is_number len bytes
  Ok (NewBacking num.0, num.1)

unfoldable pub physical_at : ℕ → List ℕ → Result (Record × List ℕ) EditBad
physical_at len bytes = do
  level ← number_at is_level len bytes
  num ← number_at is_number len level.1
  t ← table_at num.0 num.0 len num.1
  Ok (Added level.0 t.0, t.1)

-- a backing is another table's number
abbrev pub is_other : ℕ → ℕ → Bool
is_other num n = is_number n && not (n == num)

unfoldable pub virtual_at : ℕ → List ℕ → Result (Record × List ℕ) EditBad
virtual_at len bytes = do
  level ← number_at is_level len bytes
  num ← number_at is_number len level.1
  backing ← number_at (is_other num.0) len num.1
  t ← table_at num.0 backing.0 len backing.1
  Ok (Added level.0 t.0, t.1)

-- the fields that follow a tag, which stands at a place
unfoldable pub fields_at : ℕ → ℕ → ℕ → List ℕ → Result (Record × List ℕ) EditBad
fields_at tag at len bytes =
    if tag == 1 then removed_at len bytes else (if tag == 2 then new_backing_at len bytes else (if tag == 3 then physical_at len bytes else (if tag == 4 then virtual_at len bytes else Err (BadTag tag at))))

unfoldable pub record_at : ℕ → List ℕ → Result (Record × List ℕ) EditBad
record_at len bytes = do
  tag ← as_tag len (len - length bytes) (varint_at bytes)
  fields_at tag.0 (len - length bytes) len tag.1

-- At most so many records, up to the end of the input: each one is behind the last.
unfoldable pub records_at : ℕ → Rank → ℕ → List ℕ → Result (List Record) EditBad
records_at most last len [] = Ok []
records_at zero last len (b ∷ bs) = Ok []
records_at (suc most) last len (b ∷ bs) = do
  r ← record_at len (b ∷ bs)
  rs ← if is_before last (rank_of r.0) then records_at most (rank_of r.0) len r.1 else Err (BadOrder (len - length (b ∷ bs)))
  Ok (r.0 ∷ rs)

-- The edit that the bytes spell. A record has a byte at least, so there are no more records than bytes.
unfoldable pub edit_at : List ℕ → Result Changes EditBad
edit_at bytes = do
  rs ← records_at (length bytes) front (length bytes) bytes
  Ok (changes_of rs)
