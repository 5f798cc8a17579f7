-- What an external table's operations are in its file: points and range tombstones, each with the number 0.
-- A point stands above a range tombstone of the same number, so no point of the table is deleted by it.
use Rattle.std.specs.Prelude.{ℕ, List, [], map, Option, Some, None}
use Rattle.std.specs.List.{filter_map}
use Rattle.xdb_key.specs.Entries.{Point, point, Tombstone, tombstone}
use Rattle.xdb_key.specs.declared.op.Kind.TheVariants as kinds
use Rattle.xdb_key.specs.declared.op.Op.{Op}
use Rattle.xdb_key.specs.declared.op.Op.TheVariants.{Set, Del, DelSpan}
use Rattle.xdb_rangedel.specs.Content.{Item, content_of}
use Rattle.xdb_rangedel.specs.Members.{SameMembers}
use Rattle.xdb_rangedel.specs.Pieces.{AreFragments, pieces}
use Rattle.xdb_table_w.specs.Content.{Content, content, point_row, span_row}
use Rattle.xdb_table_w.specs.Files.{IsTable}

abbrev pub point_of : Op → Option Point
point_of (Set key value) = Some (point key 0 kinds.Set value)
point_of (Del key) = Some (point key 0 kinds.Del [])
point_of (DelSpan range) = None

abbrev pub span_of : Op → Option Tombstone
span_of (Set key value) = None
span_of (Del key) = None
span_of (DelSpan range) = Some (tombstone range 0)

abbrev pub points_of : List Op → List Point
points_of ops = filter_map point_of ops

abbrev pub spans_of : List Op → List Tombstone
spans_of ops = filter_map span_of ops

-- the content of the operations
abbrev pub ops_content : List Op → List Item
ops_content ops = content_of (points_of ops) (spans_of ops)

-- the points and some fragments, as a table has them
abbrev pub rows_of : List Op → List Tombstone → Content
rows_of ops fragments = content (map point_row (points_of ops)) (map span_row fragments)

-- The bytes are a table file of the operations: of their points, and of the pieces of their range deletes,
-- in order and each once.
pub record IsFileOf (ops : List Op) (bytes : List ℕ) : Type 0 where
  pub fragments : List Tombstone
  pub in_order : AreFragments fragments
  pub are_pieces : SameMembers fragments (pieces (spans_of ops))
  pub table : IsTable 16 bytes (rows_of ops fragments)
