-- The grammar of table files, for what is known of a table once its file was read.
use Rattle.std.specs.Prelude.{◌≡◌, ℕ, List}
use Rattle.xdb_key.specs.Entries.{Tombstone}
use Rattle.xdb_block.specs.Rows.{Row}
use Rattle.xdb_table_w.specs.Content.{content}
use Rattle.xdb_table_w.specs.Files.{IsTable}
use Rattle.xdb_table_r.specs.Opening.{tombstones}

-- The bytes are a table file of these points and of these spans: `IsTable` speaks of spans as rows, and the rows are theirs.
pub record IsTableOf (bytes : List ℕ) (points : List Row) (ts : List Tombstone) : Type 0 where
  pub spans : List Row
  pub are_spans : tombstones spans ≡ ts
  pub table : IsTable 16 bytes (content points spans)
