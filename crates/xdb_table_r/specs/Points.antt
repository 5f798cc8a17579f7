-- What the point blocks of a table file read as: the rows of all blocks, or the place of the first block that has a
-- defect. A block is tested when it is read.
use Rattle.std.specs.Prelude.{ℕ, ◌+◌, ◌-◌, Bool, true, false, ◌&&◌, ◌||◌, not, List, [], ◌∷◌, ◌++◌, length, Option, Some, None, Result, Ok, Err, nat_lt, nat_le, ◌==◌, if◌then◌else◌}
use Rattle.std.specs.Ordering.{is_eq}
use Rattle.xdb_key.specs.Order.{key_cmp}
use Rattle.xdb_key.specs.Reading.{◌>>=◌}
use Rattle.xdb_block.specs.declared.kind.BlockKind.TheVariants as kinds
use Rattle.xdb_block.specs.Kept.{last_key}
use Rattle.xdb_block.specs.Rows.{Row, precedes, nth}
use Rattle.xdb_block.specs.Spelling.{entries}
use Rattle.xdb_table_w.specs.Files.{front}
use Rattle.xdb_table_r.specs.Parts.{part_at, handle}

-- A block ends with the row that brings its entries to 4,096 bytes or more, or with the last row of all.
abbrev pub ends_well : Bool → List Row → Bool
ends_well more rows = nat_lt (length (entries 16 (front rows))) 4096 && (not more || nat_le 4096 (length (entries 16 rows)))

-- the first row stands behind the last key of the block before it
abbrev pub is_behind : Option Row → List Row → Bool
is_behind None rows = true
is_behind (Some last) rows = precedes last.key (nth rows 0).key

-- the rows are those of the block of an index row, behind the index row before it
abbrev pub stands : Option Row → Bool → Row → List Row → Bool
stands last more i rows = is_eq (key_cmp (last_key [] rows) i.key) && is_behind last rows && ends_well more rows

abbrev pub standing : Option Row → Bool → Row → List Row → Result (List Row) ℕ
standing last more i rows = if stands last more i rows then Ok rows else Err (handle i).at

-- the point block of an index row
unfoldable pub block_of : Option Row → Bool → Row → List ℕ → Result (List Row) ℕ
block_of last more i file = do
  rows ← part_at kinds.Point (handle i) file
  standing last more i rows

abbrev pub is_more : List Row → Bool
is_more [] = false
is_more (r ∷ rs) = true

-- the rows of the blocks of index rows, behind the index row before them
unfoldable pub points_from : Option Row → List Row → List ℕ → Result (List Row) ℕ
points_from last [] file = Ok []
points_from last (i ∷ is) file = do
  rows ← block_of last (is_more is) i file
  rest ← points_from (Some i) is file
  Ok (rows ++ rest)

-- all points of a file with this index
abbrev pub points_at : List Row → List ℕ → Result (List Row) ℕ
points_at index file = points_from None index file

-- the index row before the one at a place, if there is one
abbrev pub before : List Row → ℕ → Option Row
before index i = if i == 0 then None else Some (nth index (i - 1))

-- whether an index row stands behind the one at a place
abbrev pub has_more : List Row → ℕ → Bool
has_more index i = nat_lt (i + 1) (length index)

-- rows that were read before others
abbrev pub then_rows : List Row → Result (List Row) ℕ → Result (List Row) ℕ
then_rows rows (Ok rest) = Ok (rows ++ rest)
then_rows rows (Err at) = Err at
