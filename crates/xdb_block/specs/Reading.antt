-- A block read with its first defect: the restart part first, then the entries from left to right, then
-- offsets that are left over. `end` is the place of the restart part, where the entries end; so an entry's
-- place is `end` less the bytes that are left there.
use Rattle.std.specs.Prelude.{◌≡◌, ℕ, zero, suc, ◌+◌, ◌-◌, ◌*◌, ◌/◌, Bool, true, false, ◌&&◌, ◌||◌, List, [], ◌∷◌, ◌++◌, length, take, drop, slice_range, Option, Some, None, Result, Ok, Err, nat_le, nat_lt, ◌==◌, if◌then◌else◌}
use Rattle.byteorder.specs.Endian.{little_number}
use Rattle.xdb_key.specs.Reading.{◌>>=◌}
use Rattle.xdb_key.specs.Varint.{varint_at}
use Rattle.xdb_key.specs.declared.error.VarintNo.{VarintNo}
use Rattle.xdb_block.specs.declared.kind.BlockKind.{BlockKind}
use Rattle.xdb_block.specs.declared.kind.BlockNo.{BlockNo}
use Rattle.xdb_block.specs.declared.kind.BlockNo.TheVariants.{Damaged, Memory}
use Rattle.xdb_block.specs.Rows.{Row, row, follows}
use Rattle.xdb_block.specs.Spelling.{is_restart, left_out, key_of}

-- a call's refusal is the reader's; want of memory may come at any place
abbrev pub IsDefect : {Y : Type 0} → BlockNo → Result Y BlockNo → Type 0
IsDefect Memory read = Unit {0}
IsDefect bad read = read ≡ Err bad

-- what a call returned, seen by `view`, is what the reader answers, unless memory ran out
abbrev pub Answers : {X Y : Type 0} → (X → Y) → Result X BlockNo → Result Y BlockNo → Type 0
Answers view (Ok x) read = read ≡ Ok (view x)
Answers view (Err bad) read = IsDefect bad read

-- ---- the restart part

-- so many numbers of 4 bytes
abbrev pub some_numbers : ℕ → List ℕ → List ℕ
some_numbers zero bytes = []
some_numbers (suc n) bytes = little_number 4 bytes ∷ some_numbers n (drop 4 bytes)

-- all numbers of 4 bytes
unfoldable pub numbers : List ℕ → List ℕ
numbers bytes = some_numbers (length bytes / 4) bytes

-- numbers that rise strictly, none below the least and each below the end
abbrev pub rise : ℕ → ℕ → List ℕ → Bool
rise least end [] = true
rise least end (o ∷ os) = nat_le least o && nat_lt o end && rise (o + 1) end os

-- they begin with 0, rise strictly, and lie before the restart part
abbrev pub are_offsets : ℕ → List ℕ → Bool
are_offsets end [] = false
are_offsets end (o ∷ os) = (o == 0) && rise 0 end (o ∷ os)

-- the place of the restart part, and its offsets
unfoldable pub restarts_at : List ℕ → Result (ℕ × List ℕ) BlockNo
restarts_at bytes =
    let len = length bytes in
    let count = little_number 4 (drop (len - 4) bytes) in
    let end = len - 4 - 4 * count in
    let os = numbers (slice_range bytes end (len - 4)) in
    if nat_lt len 4 || nat_lt len (4 + 4 * count) then Err (Damaged 0) else (if are_offsets end os then Ok (end, os) else Err (Damaged end))

-- ---- the entry at a place

-- a defect of a number is one of the entry
abbrev pub in_entry : {A : Type 0} → ℕ → Result A VarintNo → Result A BlockNo
in_entry at (Ok x) = Ok x
in_entry at (Err e) = Err (Damaged at)

unfoldable pub number_at : ℕ → List ℕ → Result (ℕ × List ℕ) BlockNo
number_at at bytes = in_entry at (varint_at bytes)

-- how many bytes it leaves out of the key, and how long the rest of the key and the value are
unfoldable pub lengths_at : ℕ → List ℕ → Result ((ℕ × ℕ × ℕ) × List ℕ) BlockNo
lengths_at at bytes = do
  shared ← number_at at bytes
  unshared ← number_at at shared.1
  value ← number_at at unshared.1
  Ok ((shared.0, unshared.0, value.0), value.1)

-- a row behind a key: its bytes are there, and it leaves out just what it has to
unfoldable pub row_at : ℕ → Bool → List ℕ → List ℕ → Result (Row × List ℕ) BlockNo
row_at at restart last bytes = do
  n ← lengths_at at bytes
  if nat_lt (length n.1) (n.0.1 + n.0.2) || nat_lt (length last) n.0.0 then Err (Damaged at)
      else (if n.0.0 == left_out restart last (take n.0.0 last ++ take n.0.1 n.1) then Ok (row (take n.0.0 last ++ take n.0.1 n.1) (take n.0.2 (drop n.0.1 n.1)), drop (n.0.1 + n.0.2) n.1) else Err (Damaged at))

-- a row that may follow the one before it
unfoldable pub next_at : ℕ → BlockKind → Bool → Option Row → List ℕ → Result (Row × List ℕ) BlockNo
next_at at kind restart last bytes = do
  r ← row_at at restart (key_of last) bytes
  if follows kind last r.0 then Ok r else Err (Damaged at)

-- the offsets behind an entry: a restart has to stand at the next one
unfoldable pub offsets_at : ℕ → Bool → List ℕ → Result (List ℕ) BlockNo
offsets_at at false os = Ok os
offsets_at at true [] = Err (Damaged at)
offsets_at at true (o ∷ os) = if o == at then Ok os else Err (Damaged at)

-- ---- all entries

-- at most so many rows, of which the first has number i
unfoldable pub rows_at : ℕ → ℕ → BlockKind → ℕ → ℕ → Option Row → List ℕ → List ℕ → Result (List Row) BlockNo
rows_at most interval kind end i last os [] = if length os == 0 then Ok [] else Err (Damaged end)
rows_at zero interval kind end i last os (b ∷ bs) = Err (Damaged (end - length (b ∷ bs)))
rows_at (suc most) interval kind end i last os (b ∷ bs) = do
  left ← offsets_at (end - length (b ∷ bs)) (is_restart interval i) os
  r ← next_at (end - length (b ∷ bs)) kind (is_restart interval i) last (b ∷ bs)
  rs ← rows_at most interval kind end (i + 1) (Some r.0) left r.1
  Ok (r.0 ∷ rs)

-- the rows of a whole block; an entry has a byte at least, so there are no more rows than bytes
unfoldable pub block_at : ℕ → BlockKind → List ℕ → Result (List Row) BlockNo
block_at interval kind bytes = do
  part ← restarts_at bytes
  rows_at part.0 interval kind part.0 0 None part.1 (take part.0 bytes)
