-- What a table holds, as content.
use Rattle.std.specs.Prelude.{List, map}
use Rattle.xdb_key.specs.Entries.{Tombstone}
use Rattle.xdb_block.specs.Rows.{Row}
use Rattle.xdb_rangedel.specs.Content.{Item, content_of}
use Rattle.xdb_table_r.specs.Views.{point_of}

-- the content of the rows of points and of spans
abbrev pub content_in : List Row → List Tombstone → List Item
content_in rows ts = content_of (map point_of rows) ts
