-- What opening a table file reads: the footer, then the index, then the spans. The answer is what they say, or the
-- place of the first that has a defect.
use Rattle.std.specs.Prelude.{◌≡◌, ℕ, ◌-◌, ◌≤◌, Bool, ◌&&◌, not, List, length, map, drop, Option, Some, None, Result, Ok, Err, nat_lt, ◌==◌, if◌then◌else◌}
use Rattle.std.specs.Ordering.{is_eq}
use Rattle.byteorder.specs.Endian.{little_number}
use Rattle.xdb_key.specs.Bounds.{bounds}
use Rattle.xdb_key.specs.Entries.{Tombstone, tombstone}
use Rattle.xdb_key.specs.Order.{key_cmp}
use Rattle.xdb_key.specs.Reading.{◌>>=◌}
use Rattle.xdb_block.specs.declared.kind.BlockKind.TheVariants as kinds
use Rattle.xdb_block.specs.Rows.{Row, user_part}
use Rattle.xdb_table_w.specs.Extents.{number}
use Rattle.xdb_table_w.specs.Files.{name}
use Rattle.xdb_table_r.specs.declared.part.Part.{Part}
use Rattle.xdb_table_r.specs.declared.part.Layout.{Layout}
use Rattle.xdb_table_r.specs.declared.error.TableNo.{TableNo}
use Rattle.xdb_table_r.specs.declared.error.TableNo.TheVariants.{ReadFault, Damaged, Memory}
use Rattle.xdb_table_r.specs.Parts.{part, behind, rows_at, follow_on}

-- The error of a call on the file with this number, where its bytes are read so: `Damaged` is the defect that the reading
-- has. A fault and want of memory may come at any place.
abbrev pub IsNo : {Y : Type 0} → ℕ → TableNo → Result Y ℕ → Type 0
IsNo backing (Damaged b at) read = (b ≡ backing) × (read ≡ Err at)
IsNo backing ReadFault read = Unit {0}
IsNo backing Memory read = Unit {0}

-- what a call returned, seen by `view`, is what the bytes read as
abbrev pub Tells : {X Y : Type 0} → ℕ → (X → Y) → Result X TableNo → Result Y ℕ → Type 0
Tells backing view (Ok x) read = read ≡ Ok (view x)
Tells backing view (Err e) read = IsNo backing e read

-- ---- the footer

abbrev pub layout : Part → Part → Layout
layout spans index = record { spans = spans; index = index }

-- Where the point blocks end: where the spans begin, or the index if there are no spans.
abbrev pub points_end : Layout → ℕ
points_end l = if l.spans.len == 0 then l.index.at else l.spans.at

-- a block that is left out has the place 0
abbrev pub is_left_out : Part → Bool
is_left_out p = (p.len == 0) && (p.at == 0)

-- There are spans or an index. The spans lie before the index, and the last of them before the footer. Without an
-- index there are no points, so the spans lie at 0.
abbrev pub is_laid : ℕ → Layout → Bool
is_laid end l =
    if l.index.len == 0
    then (l.index.at == 0) && not (l.spans.len == 0) && (l.spans.at == 0) && (behind l.spans == end)
    else (behind l.index == end) && (if l.spans.len == 0 then l.spans.at == 0 else behind l.spans == l.index.at)

-- the number of n bytes at a place
unfoldable pub number_at : ℕ → ℕ → List ℕ → ℕ
number_at n at bytes = little_number n (drop at bytes)

-- the two parts that a footer of 40 bytes names
abbrev pub parts_at : List ℕ → Layout
parts_at footer = layout (part (number_at 8 0 footer) (number_at 4 8 footer)) (part (number_at 8 12 footer) (number_at 4 20 footer))

-- it ends with the format, 1, and the name
abbrev pub is_ending : List ℕ → Bool
is_ending footer = (number_at 8 24 footer == 1) && is_eq (key_cmp (drop 32 footer) name)

-- what a footer says that stands at a place
abbrev pub layout_at : ℕ → List ℕ → Option Layout
layout_at end footer = if is_ending footer && is_laid end (parts_at footer) then Some (parts_at footer) else None

abbrev pub laid_out : ℕ → Option Layout → Result Layout ℕ
laid_out end None = Err end
laid_out end (Some l) = Ok l

-- the layout of a whole file
unfoldable pub footer_at : List ℕ → Result Layout ℕ
footer_at file =
    if nat_lt (length file) 40 then Err 0
    else laid_out (length file - 40) (layout_at (length file - 40) (drop (length file - 40) file))

-- a layout whose blocks lie within a file of so many bytes
pub record LiesIn (size : ℕ) (l : Layout) : Type 0 where
  pub index : 1 ≤ l.index.len → behind l.index ≤ size
  pub spans : 1 ≤ l.spans.len → behind l.spans ≤ size
  pub points : points_end l ≤ size
  pub none : l.index.len ≡ 0 → points_end l ≡ 0

-- ---- the blocks

-- rows, if their point blocks follow one another up to the end
abbrev pub tiled : ℕ → ℕ → List Row → Result (List Row) ℕ
tiled place end rows = if follow_on 0 end rows then Ok rows else Err place

unfoldable pub index_at : Layout → List ℕ → Result (List Row) ℕ
index_at l file = rows_at kinds.Index l.index file >>= tiled l.index.at (points_end l)

-- the range tombstone of a row
abbrev pub tombstone_of : Row → Tombstone
tombstone_of r = tombstone (bounds (user_part r.key) r.value) (number r)

abbrev pub tombstones : List Row → List Tombstone
tombstones rows = map tombstone_of rows

unfoldable pub spans_at : Part → List ℕ → Result (List Tombstone) ℕ
spans_at p file = rows_at kinds.Spans p file >>= λ rows. Ok (tombstones rows)

-- ---- the file

-- what is known of a table once it is open: its spans, its index, and where its point blocks end
pub record Opened : Type 0 where
  pub spans : List Tombstone
  pub index : List Row
  pub end : ℕ

abbrev pub opened : List Tombstone → List Row → ℕ → Opened
opened spans index end = record { spans = spans; index = index; end = end }

unfoldable pub opened_at : List ℕ → Result Opened ℕ
opened_at file = do
  l ← footer_at file
  index ← index_at l file
  spans ← spans_at l.spans file
  Ok (opened spans index (points_end l))
