-- The one spelling of rows as a block, for any restart interval: the entries, the restart offsets in 4
-- bytes each, and their count in 4 bytes.
use Rattle.std.specs.Prelude.{ℕ, ◌+◌, ◌-◌, ◌%◌, ◌^◌, ◌<◌, ◌≤◌, Bool, List, [], ◌∷◌, ◌++◌, length, drop, Option, Some, None, nat_eq, ◌==◌, if◌then◌else◌}
use Rattle.std.specs.List.{common_prefix_len, flat_map, AllByRecursion}
use Rattle.byteorder.specs.Endian.{little_bytes}
use Rattle.xdb_key.specs.Varint.{varint}
use Rattle.xdb_block.specs.declared.kind.BlockKind.{BlockKind}
use Rattle.xdb_block.specs.Rows.{Row, Follow}

-- whether the entry with this number, counted from 0, is a restart
abbrev pub is_restart : ℕ → ℕ → Bool
is_restart interval i = i % interval == 0

-- how many bytes of its key an entry leaves out: a restart none, and another one the longest front that it
-- shares with the key before it
abbrev pub left_out : Bool → List ℕ → List ℕ → ℕ
left_out restart last key = if restart then 0 else common_prefix_len nat_eq last key

-- an entry that leaves out n bytes: three lengths, the rest of the key, and the value
abbrev pub entry_bytes : ℕ → Row → List ℕ
entry_bytes n r = varint n ++ varint (length r.key - n) ++ varint (length r.value) ++ drop n r.key ++ r.value

-- the entries of rows, of which the first has number i and stands behind a key
abbrev pub entries_from : ℕ → ℕ → List ℕ → List Row → List ℕ
entries_from interval i last [] = []
entries_from interval i last (r ∷ rs) = entry_bytes (left_out (is_restart interval i) last r.key) r ++ entries_from interval (i + 1) r.key rs

-- the place of an entry, where it is a restart
abbrev pub offset_of : Bool → ℕ → List ℕ
offset_of restart at = if restart then at ∷ [] else []

-- the places of the restarts, where the first row's entry stands at a place
abbrev pub offsets_from : ℕ → ℕ → ℕ → List ℕ → List Row → List ℕ
offsets_from interval at i last [] = []
offsets_from interval at i last (r ∷ rs) = offset_of (is_restart interval i) at ++ offsets_from interval (at + length (entry_bytes (left_out (is_restart interval i) last r.key) r)) (i + 1) r.key rs

abbrev pub entries : ℕ → List Row → List ℕ
entries interval rows = entries_from interval 0 [] rows

abbrev pub offsets : ℕ → List Row → List ℕ
offsets interval rows = offsets_from interval 0 0 [] rows

-- offsets and their count
abbrev pub restart_bytes : List ℕ → List ℕ
restart_bytes os = flat_map (little_bytes 4) os ++ little_bytes 4 (length os)

abbrev pub block_bytes : ℕ → List Row → List ℕ
block_bytes interval rows = entries interval rows ++ restart_bytes (offsets interval rows)

-- the key before a row; before the first row there is none
abbrev pub key_of : Option Row → List ℕ
key_of None = []
key_of (Some r) = r.key

-- What has a spelling: some rows of one kind of block, each behind the one before it. Lengths are below
-- 2^63, and offsets and their count are below 2^32.
pub record IsBlock (interval : ℕ) (kind : BlockKind) (rows : List Row) : Type 0 where
  pub some : 1 ≤ length rows
  pub each : Follow kind None rows
  pub short : AllByRecursion (λ r. length r.value < 2 ^ 63) rows
  pub placed : AllByRecursion (λ o. o < 2 ^ 32) (offsets interval rows)
  pub counted : length (offsets interval rows) < 2 ^ 32
