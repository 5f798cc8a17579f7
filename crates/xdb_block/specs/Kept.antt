-- What a block and a writer keep.
use Rattle.std.specs.Prelude.{◌≡◌, ℕ, zero, suc, ◌+◌, ◌-◌, ◌^◌, ◌<◌, ◌≤◌, List, [], ◌∷◌, length, map, slice_range, None, Result, Ok, Err, All}
use Rattle.std.specs.List.{AllByRecursion}
use Rattle.xdb_block.specs.declared.internal.RowRef.{RowRef}
use Rattle.xdb_block.specs.declared.kind.BlockNo.{BlockNo}
use Rattle.xdb_block.specs.declared.place.Place.{Place}
use Rattle.xdb_block.specs.Reading.{row_at}
use Rattle.xdb_block.specs.Rows.{Row, row, Rise}
use Rattle.xdb_block.specs.Spelling.{is_restart, entries, offsets}

-- the row of two slices
abbrev pub seen : RowRef → Row
seen r = row r.key.now r.value.now

-- ---- a block: whole keys one behind the other, the block's bytes, and where each row lies in them

abbrev pub row_of : List ℕ → List ℕ → Place → Row
row_of keys bytes p = row (slice_range keys p.key p.key_end) (slice_range bytes p.value p.end)

abbrev pub rows_of : List ℕ → List ℕ → List Place → List Row
rows_of keys bytes places = map (row_of keys bytes) places

-- a place within so many bytes of keys and so many bytes of the block
pub record Lies (keys bytes : ℕ) (p : Place) : Type 0 where
  pub key_order : p.key ≤ p.key_end
  pub in_keys : p.key_end ≤ keys
  pub value_order : p.value ≤ p.end
  pub in_bytes : p.end ≤ bytes

abbrev pub key_in : List ℕ → Place → List ℕ
key_in keys p = slice_range keys p.key p.key_end

abbrev pub keys_of : List ℕ → List Place → List (List ℕ)
keys_of keys places = map (key_in keys) places

-- a place of a key within so many bytes of keys
abbrev pub HasKey : ℕ → Place → Type 0
HasKey keys p = (p.key ≤ p.key_end) × (p.key_end ≤ keys)

-- how many bytes the keys at places are
abbrev pub keys_size : List Place → ℕ
keys_size [] = 0
keys_size (p ∷ ps) = p.key_end - p.key + keys_size ps

pub record IsKept (keys bytes : List ℕ) (places : List Place) : Type 0 where
  pub lie : All (Lies (length keys) (length bytes)) places
  pub rise : Rise None (keys_of keys places)
  -- nothing but the keys is kept
  pub whole : length keys ≡ keys_size places

-- ---- a writer

-- what a writer is about to write
pub record Draft : Type 0 where
  pub interval : ℕ
  pub rows : List Row

abbrev pub draft : ℕ → List Row → Draft
draft interval rows = record { interval = interval; rows = rows }

-- a row that was read, and the rows behind it
abbrev pub then_rows : Result (Row × List ℕ) BlockNo → (Row → List ℕ → List Row) → List Row
then_rows (Ok x) rest = x.0 ∷ rest x.0 x.1
then_rows (Err e) rest = []

-- the rows that entries spell, read without a test of what they are
abbrev pub rows_from : ℕ → ℕ → ℕ → List ℕ → List ℕ → List Row
rows_from zero interval i last bytes = []
rows_from (suc most) interval i last bytes = then_rows (row_at 0 (is_restart interval i) last bytes) (λ r rest. rows_from most interval (i + 1) r.key rest)

unfoldable pub rows_in : ℕ → List ℕ → List Row
rows_in interval bytes = rows_from (length bytes) interval 0 [] bytes

-- the last key, or the one before all rows
abbrev pub last_key : List ℕ → List Row → List ℕ
last_key last [] = last
last_key last (r ∷ rs) = last_key r.key rs

-- lengths that have a spelling
abbrev pub IsShort : Row → Type 0
IsShort r = (length r.key < 2 ^ 63) × (length r.value < 2 ^ 63)

-- what a writer keeps of its rows: their entries, the last key, the restart offsets, and how many there are
pub record Keeps (interval : ℕ) (rows : List Row) (out last os : List ℕ) (count : ℕ) : Type 0 where
  pub positive : 1 ≤ interval
  pub short : AllByRecursion IsShort rows
  pub spelled : out ≡ entries interval rows
  pub behind : last ≡ last_key [] rows
  pub restarts : os ≡ offsets interval rows
  pub counted : count ≡ length rows

abbrev pub IsDraft : ℕ → List ℕ → List ℕ → List ℕ → ℕ → Type 0
IsDraft interval out last os count = Keeps interval (rows_in interval out) out last os count
