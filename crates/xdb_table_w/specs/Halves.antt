-- What a table writer keeps: the point blocks that have ended, the one under way, the spans, and what their
-- extent is made of.
use Rattle.std.specs.Prelude.{◌≡◌, ℕ, ◌+◌, ◌<◌, ◌≤◌, List, [], ◌∷◌, ◌++◌, length, map, All, Option, Some, None, ◌==◌, if◌then◌else◌}
use Rattle.std.specs.List.{AllByRecursion}
use Rattle.std.specs.Option.{option_map}
use Rattle.xdb_block.specs.declared.kind.BlockKind.TheVariants as kinds
use Rattle.xdb_block.specs.Kept.{Draft, last_key}
use Rattle.xdb_block.specs.Rows.{Row, Follow, AreRows}
use Rattle.xdb_block.specs.Spelling.{entries}
use Rattle.xdb_table_w.specs.declared.seqs.Seqs.{Seqs}
use Rattle.xdb_table_w.specs.Content.{last_of}
use Rattle.xdb_table_w.specs.Extents.{Spread, numbers, user, end}
use Rattle.xdb_table_w.specs.Files.{IsFull, AreCut, joined}

abbrev pub rows_in : List Draft → List (List Row)
rows_in blocks = map (λ d. d.rows) blocks

abbrev pub points_in : List Draft → Draft → List Row
points_in blocks block = joined (rows_in blocks) ++ block.rows

-- a point block that can be written
abbrev pub IsPointBlock : Draft → Type 0
IsPointBlock d = (d.interval ≡ 16) × AreRows kinds.Point d.rows

-- a point block that has ended
abbrev pub HasEnded : Draft → Type 0
HasEnded d = (d.interval ≡ 16) × IsFull 16 d.rows

abbrev pub first_of : List Row → Option Row
first_of [] = None
first_of (r ∷ rs) = Some r

-- what is kept of points in order: the first user key, the last internal key, and the least and the greatest number
pub record ArePoints (points : List Row) (first : Option (List ℕ)) (last : List ℕ) (seqs : Option Seqs) : Type 0 where
  pub follow : Follow kinds.Point None points
  pub first_is : first ≡ option_map user (first_of points)
  pub last_is : last ≡ last_key [] points
  pub spread : Spread (numbers points) seqs

-- what is kept of spans in order: the start of the first, the end of the last, and their numbers
pub record AreSpans (spans : List Row) (lo hi : Option (List ℕ)) (seqs : Option Seqs) : Type 0 where
  pub follow : Follow kinds.Spans None spans
  pub lo_is : lo ≡ option_map user (first_of spans)
  pub hi_is : hi ≡ option_map end (last_of None spans)
  pub spread : Spread (numbers spans) seqs

-- a table under way
pub record IsHalf (blocks : List Draft) (block spans : Draft) (first : Option (List ℕ)) (last : List ℕ) (lo hi : Option (List ℕ)) (point_seqs span_seqs : Option Seqs) : Type 0 where
  pub ended : AllByRecursion HasEnded blocks
  pub block_interval : block.interval ≡ 16
  pub spans_interval : spans.interval ≡ 16
  pub few : length (entries 16 block.rows) < 4096
  pub points : ArePoints (points_in blocks block) first last point_seqs
  pub ranges : AreSpans spans.rows lo hi span_seqs

-- all blocks, where the one under way is left out if it has no rows
abbrev pub closed : List Draft → Draft → List Draft
closed blocks d = if length d.rows == 0 then blocks else blocks ++ d ∷ []

-- all blocks of a table
pub record IsReady (blocks : List Draft) (spans : Draft) (first : Option (List ℕ)) (last : List ℕ) (lo hi : Option (List ℕ)) (point_seqs span_seqs : Option Seqs) : Type 0 where
  pub point_blocks : All IsPointBlock blocks
  pub cut : AreCut 16 (rows_in blocks)
  pub spans_interval : spans.interval ≡ 16
  pub points : ArePoints (joined (rows_in blocks)) first last point_seqs
  pub ranges : AreSpans spans.rows lo hi span_seqs
  pub some : 1 ≤ length (joined (rows_in blocks)) + length spans.rows
