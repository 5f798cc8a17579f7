-- Where blocks lie in a table file, and what the bytes there read as.
use Rattle.std.specs.Prelude.{ℕ, ◌+◌, Bool, ◌&&◌, not, List, [], ◌∷◌, take, slice_range, slice_index_or, Result, Ok, Err, nat_le, ◌==◌, if◌then◌else◌}
use Rattle.xdb_key.specs.Reading.{◌>>=◌}
use Rattle.xdb_key.specs.Varint.{varint_at}
use Rattle.xdb_key.specs.declared.error.VarintNo.{VarintNo}
use Rattle.xdb_block.specs.declared.kind.BlockKind.{BlockKind}
use Rattle.xdb_block.specs.declared.kind.BlockNo.{BlockNo}
use Rattle.xdb_block.specs.Reading.{block_at}
use Rattle.xdb_block.specs.Rows.{Row}
use Rattle.xdb_table_r.specs.declared.part.Part.{Part}

-- a block's place and its length without its type byte; a length of 0 means that it is left out
abbrev pub part : ℕ → ℕ → Part
part at len = record { at = at; len = len }

-- where the type byte of a part ends
abbrev pub behind : Part → ℕ
behind p = p.at + p.len + 1

-- ---- a block at a place; each defect is one of the block, and named by its place

abbrev pub in_block : {A : Type 0} → ℕ → Result A BlockNo → Result A ℕ
in_block at (Ok x) = Ok x
in_block at (Err e) = Err at

-- the rows of a block from its bytes and its type byte, which is 0
abbrev pub typed_at : BlockKind → Part → List ℕ → Result (List Row) ℕ
typed_at kind p bytes = if slice_index_or bytes p.len 1 == 0 then in_block p.at (block_at 16 kind (take p.len bytes)) else Err p.at

abbrev pub part_at : BlockKind → Part → List ℕ → Result (List Row) ℕ
part_at kind p file = typed_at kind p (slice_range file p.at (behind p))

-- the same, or no rows where the block is left out
abbrev pub rows_at : BlockKind → Part → List ℕ → Result (List Row) ℕ
rows_at kind p file = if p.len == 0 then Ok [] else part_at kind p file

-- ---- the point blocks that the index names

abbrev pub numbers_in : {A : Type 0} → Result ((ℕ × ℕ) × A) VarintNo → Part
numbers_in (Ok x) = part x.0.0 x.0.1
numbers_in (Err e) = part 0 0

-- two numbers, one behind the other
abbrev pub handle_at : List ℕ → Result ((ℕ × ℕ) × List ℕ) VarintNo
handle_at value = varint_at value >>= λ at. varint_at at.1 >>= λ len. Ok ((at.0, len.0), len.1)

-- where the point block of an index row lies
abbrev pub handle : Row → Part
handle r = numbers_in (handle_at r.value)

-- a point block that begins at a place and ends by the end; none has the length 0
abbrev pub follows : ℕ → ℕ → Part → Bool
follows at end p = (p.at == at) && not (p.len == 0) && nat_le (behind p) end

-- point blocks that follow one another from a place up to the end
abbrev pub follow_on : ℕ → ℕ → List Row → Bool
follow_on at end [] = at == end
follow_on at end (r ∷ rs) = follows at end (handle r) && follow_on (behind (handle r)) end rs
