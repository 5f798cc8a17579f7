-- The spelling of a table file: point blocks, the block of spans if there are any, the index if there are
-- points, and a footer. Each block is followed by one type byte, 0.
use Rattle.std.specs.Prelude.{◌≡◌, ℕ, ◌+◌, ◌-◌, ◌^◌, ◌<◌, ◌≤◌, List, [], ◌∷◌, ◌++◌, length, take, None}
use Rattle.std.specs.List.{flat_map, AllByRecursion}
use Rattle.byteorder.specs.Endian.{little_bytes}
use Rattle.xdb_key.specs.Varint.{varint}
use Rattle.xdb_block.specs.declared.kind.BlockKind.TheVariants as kinds
use Rattle.xdb_block.specs.Kept.{last_key}
use Rattle.xdb_block.specs.Rows.{Row, row, Follow}
use Rattle.xdb_block.specs.Spelling.{entries, block_bytes, IsBlock}
use Rattle.xdb_table_w.specs.Content.{Content}

-- ---- where point blocks end

-- without the last row
abbrev pub front : List Row → List Row
front rows = take (length rows - 1) rows

-- some rows, of which those before the last have fewer than 4,096 bytes as entries
abbrev pub IsOpen : ℕ → List Row → Type 0
IsOpen interval rows = (1 ≤ length rows) × (length (entries interval (front rows)) < 4096)

-- with the last row they have 4,096 bytes or more
abbrev pub IsFull : ℕ → List Row → Type 0
IsFull interval rows = IsOpen interval rows × (4096 ≤ length (entries interval rows))

-- a block ends with the row that brings its entries to 4,096 bytes or more, or with the last row of all
abbrev pub AreCut : ℕ → List (List Row) → Type 0
AreCut interval [] = Unit {0}
AreCut interval (b ∷ []) = IsOpen interval b
AreCut interval (b ∷ c ∷ bs) = IsFull interval b × AreCut interval (c ∷ bs)

-- the rows of all blocks
abbrev pub joined : List (List Row) → List Row
joined blocks = flat_map (λ b. b) blocks

-- ---- spelling

-- a block and its type byte
abbrev pub part : ℕ → List Row → List ℕ
part interval rows = block_bytes interval rows ++ 0 ∷ []

-- a block that is left out where there are no rows
abbrev pub part_of : ℕ → List Row → List ℕ
part_of interval [] = []
part_of interval (r ∷ rs) = part interval (r ∷ rs)

-- its place and its length without the type byte; 0 where it is left out
abbrev pub place_of : ℕ → List Row → ℕ
place_of at [] = 0
place_of at (r ∷ rs) = at

abbrev pub len_of : ℕ → List Row → ℕ
len_of interval [] = 0
len_of interval (r ∷ rs) = length (block_bytes interval (r ∷ rs))

abbrev pub parts : ℕ → List (List Row) → List ℕ
parts interval blocks = flat_map (part interval) blocks

-- the rows of the index: the last internal key of each point block, with its place and its length
abbrev pub handle : ℕ → ℕ → List ℕ
handle at len = varint at ++ varint len

abbrev pub index_from : ℕ → ℕ → List (List Row) → List Row
index_from interval at [] = []
index_from interval at (b ∷ bs) =
    row (last_key [] b) (handle at (length (block_bytes interval b))) ∷ index_from interval (at + length (part interval b)) bs

abbrev pub index : ℕ → List (List Row) → List Row
index interval blocks = index_from interval 0 blocks

-- the name `excisedb`
abbrev pub name : List ℕ
name = 101 ∷ 120 ∷ 99 ∷ 105 ∷ 115 ∷ 101 ∷ 100 ∷ 98 ∷ []

-- what each format's footer ends with
abbrev pub ending : ℕ → List ℕ
ending format = little_bytes 8 format ++ name

-- place and length of the block of spans, place and length of the index, and the format
abbrev pub footer : ℕ → ℕ → ℕ → ℕ → List ℕ
footer spans_at spans_len index_at index_len =
    little_bytes 8 spans_at ++ little_bytes 4 spans_len ++ little_bytes 8 index_at ++ little_bytes 4 index_len ++ ending 1

-- a file of format 1
abbrev pub table_bytes : ℕ → List (List Row) → List Row → List ℕ
table_bytes interval blocks spans =
    let at = length (parts interval blocks) in
    let index_at = at + length (part_of interval spans) in
    let rows = index interval blocks in
    parts interval blocks ++ part_of interval spans ++ part_of interval rows
    ++ footer (place_of at spans) (len_of interval spans) (place_of index_at rows) (len_of interval rows)

-- The bytes are a table file of the content: each block is one of its kind, the points of all blocks stand in order, and
-- the point blocks end where they have to. The lengths in the footer have 4 bytes.
pub record IsTable (interval : ℕ) (bytes : List ℕ) (c : Content) : Type 0 where
  pub blocks : List (List Row)
  pub is_joined : joined blocks ≡ c.points
  pub order : Follow kinds.Point None c.points
  pub cut : AreCut interval blocks
  pub points : AllByRecursion (IsBlock interval kinds.Point) blocks
  pub index_block : 1 ≤ length blocks → IsBlock interval kinds.Index (index interval blocks)
  pub spans : 1 ≤ length c.spans → IsBlock interval kinds.Spans c.spans
  pub spans_len : len_of interval c.spans < 2 ^ 32
  pub index_len : len_of interval (index interval blocks) < 2 ^ 32
  pub some : 1 ≤ length c.points + length c.spans
  pub spelled : bytes ≡ table_bytes interval blocks c.spans
