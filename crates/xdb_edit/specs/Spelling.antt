-- The one spelling of an edit: its records one after the other, each a tag and its fields.
use Rattle.std.specs.Prelude.{ℕ, List, ◌++◌, length, if◌then◌else◌}
use Rattle.std.specs.List.{flat_map}
use Rattle.xdb_key.specs.Bounds.{Bounds}
use Rattle.xdb_key.specs.Varint.{varint}
use Rattle.xdb_meta.specs.Table.{Table, bounds_of}
use Rattle.xdb_edit.specs.Changes.{Changes}
use Rattle.xdb_edit.specs.Records.{records_of}
use Rattle.xdb_edit.specs.declared.record.Record.{Record}
use Rattle.xdb_edit.specs.declared.record.Record.TheVariants.{Removed, NewBacking, Added}

-- a length, and that many bytes
abbrev pub string : List ℕ → List ℕ
string bytes = varint (length bytes) ++ bytes

abbrev pub range_bytes : Bounds → List ℕ
range_bytes r = string r.lo ++ string r.hi

-- what the record of a table ends with
abbrev pub table_bytes : Table → List ℕ
table_bytes t = range_bytes (bounds_of t) ++ varint t.seq_lo ++ varint t.seq_hi ++ varint t.synthetic ++ varint t.size

abbrev pub physical_bytes : ℕ → Table → List ℕ
physical_bytes level t = varint 3 ++ varint level ++ varint t.num ++ table_bytes t

abbrev pub virtual_bytes : ℕ → Table → List ℕ
virtual_bytes level t = varint 4 ++ varint level ++ varint t.num ++ varint t.backing ++ table_bytes t

abbrev pub record_bytes : Record → List ℕ
record_bytes (Removed level num) = varint 1 ++ varint level ++ varint num
record_bytes (NewBacking num) = varint 2 ++ varint num
record_bytes (Added level t) = if t.virt then virtual_bytes level t else physical_bytes level t

abbrev pub edit_bytes : Changes → List ℕ
edit_bytes e = flat_map record_bytes (records_of e)
