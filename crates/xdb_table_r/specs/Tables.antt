-- What is seen of an open table.
use Rattle.std.specs.Prelude.{◌≡◌, ℕ, ◌≤◌, true, List, [], Option, None, Some, IfSome, Ok}
use Rattle.xdb_key.specs.Entries.{Tombstone}
use Rattle.xdb_block.specs.declared.kind.BlockKind.TheVariants as kinds
use Rattle.xdb_block.specs.Rows.{Row, Follow}
use Rattle.xdb_table_r.specs.Parts.{follow_on}
use Rattle.xdb_table_r.specs.Opening.{opened, opened_at}

-- the file and its number, the spans, the index, and where the point blocks end
pub record Table (F : Type 0) : Type 0 where
  pub file : F
  pub backing : ℕ
  pub spans : List Tombstone
  pub index : List Row
  pub end : ℕ

abbrev pub table : {F : Type 0} → F → ℕ → List Tombstone → List Row → ℕ → Table F
table file backing spans index end = record { file = file; backing = backing; spans = spans; index = index; end = end }

-- the rows of an index that may be left out
abbrev pub listed : Option (List Row) → List Row
listed None = []
listed (Some rows) = rows

-- The point blocks follow one another within the file. Where the file tells its bytes, the table is what these read as.
pub record IsOpen {F : Type 0} (size : F → ℕ) (bytes : F → Option (List ℕ)) (t : Table F) : Type 0 where
  pub within : t.end ≤ size t.file
  pub tiles : follow_on 0 t.end t.index ≡ true
  pub rows : Follow kinds.Index None t.index
  pub told : IfSome (bytes t.file) (λ b. opened_at b ≡ Ok (opened t.spans t.index t.end))
