-- What a table holds, as rows of blocks: points and range tombstones, each with its internal key.
use Rattle.std.specs.Prelude.{ℕ, Bool, true, ◌&&◌, List, [], ◌∷◌, ◌++◌, Option, Some, None}
use Rattle.byteorder.specs.Endian.{little_bytes}
use Rattle.xdb_key.specs.Entries.{Point, Tombstone}
use Rattle.xdb_key.specs.Kinds.{trailer}
use Rattle.xdb_key.specs.declared.op.Kind.{Kind}
use Rattle.xdb_key.specs.declared.op.Kind.TheVariants as kinds
use Rattle.xdb_block.specs.Rows.{Row, row, precedes, is_apart}

-- an internal key: a user key and its trailer in 8 bytes
abbrev pub internal : List ℕ → ℕ → Kind → List ℕ
internal user seq kind = user ++ little_bytes 8 (trailer seq kind)

abbrev pub point_row : Point → Row
point_row p = row (internal p.key p.seq p.kind) p.value

abbrev pub span_row : Tombstone → Row
span_row t = row (internal t.range.lo t.seq kinds.SpanDel) t.range.hi

pub record Content : Type 0 where
  pub points : List Row
  pub spans : List Row

abbrev pub content : List Row → List Row → Content
content points spans = record { points = points; spans = spans }

-- the last row behind the one before all
abbrev pub last_of : Option Row → List Row → Option Row
last_of last [] = last
last_of last (r ∷ rs) = last_of (Some r) rs

-- a point behind the points so far: its key is greater in internal order
abbrev pub goes_behind : Option Row → Row → Bool
goes_behind None r = true
goes_behind (Some last) r = precedes last.key r.key

-- a span behind the spans so far: besides, it has the bounds of the last one, or begins where that one ends or behind
abbrev pub lies_behind : Option Row → Row → Bool
lies_behind None r = true
lies_behind (Some last) r = precedes last.key r.key && is_apart last r
