-- How the range deletes of a group are found: their places, in blocks that tell between which bounds they lie.
use Rattle.std.specs.Prelude.{◌≡◌, ℕ, ◌<◌, ◌≤◌, true, false, List, [], map, length, take, slice_index_or}
use Rattle.xdb_key.specs.Bounds.{Bounds, bounds, meets}
use Rattle.xdb_key.specs.Entries.{Tombstone, tombstone}
use Rattle.xdb_key.specs.Order.{is_upto}
use Rattle.xdb_rangedel.specs.Members.{Has}
use Rattle.xdb_mem.specs.declared.index.Block.{Block}

-- the range delete at the place; an empty one where there is none
abbrev pub span_at : List Tombstone → ℕ → Tombstone
span_at ts place = slice_index_or ts place (tombstone (bounds [] []) 0)

abbrev pub places_of : List Block → List ℕ
places_of bs = map (λ b. b.place) bs

-- the range deletes of the blocks, in the order of these
abbrev pub spans_of : List Tombstone → List Block → List Tombstone
spans_of ts bs = map (λ b. span_at ts b.place) bs

-- from the least start to the greatest end of the block
abbrev pub hull_of : List Tombstone → Block → Bounds
hull_of ts b = bounds (span_at ts b.first).range.lo (span_at ts b.last).range.hi

-- the range delete at the place neither starts before the block's first start nor ends behind its last end
pub record Lies (ts : List Tombstone) (b : Block) (place : ℕ) : Type 0 where
  pub start : is_upto (span_at ts b.first).range.lo (span_at ts place).range.lo ≡ true
  pub end : is_upto (span_at ts place).range.hi (span_at ts b.last).range.hi ≡ true

-- all three are places of the list
pub record IsInside (count : ℕ) (b : Block) : Type 0 where
  pub place : b.place < count
  pub first : b.first < count
  pub last : b.last < count

-- a block behind others: its own range delete and those of the others from `from` on lie in it
pub record IsBlock (ts : List Tombstone) (front : List Block) (b : Block) : Type 0 where
  pub inside : IsInside (length ts) b
  pub back : b.from ≤ length front
  pub own : Lies ts b b.place
  pub others : (j : ℕ) (d : Block) → b.from ≤ j → j < length front → Lies ts b (slice_index_or front j d).place

-- no block goes back over more than stand before it
abbrev pub GoBack : List Block → Type 0
GoBack bs = (i : ℕ) (d : Block) → i < length bs → (slice_index_or bs i d).from ≤ i

abbrev pub AreBlocks : List Tombstone → List Block → Type 0
AreBlocks ts bs = (i : ℕ) (d : Block) → i < length bs → IsBlock ts (take i bs) (slice_index_or bs i d)

-- the index of all range deletes of the list
pub record IsIndex (ts : List Tombstone) (bs : List Block) : Type 0 where
  pub blocks : AreBlocks ts bs
  pub all : (place : ℕ) → place < length ts → Has (places_of bs) place

-- none of the range deletes of these blocks meets the range
abbrev pub AreApart : List Tombstone → List Block → Bounds → ℕ → ℕ → Type 0
AreApart ts bs range from to = (j : ℕ) (d : Block) → from ≤ j → j < to → meets (span_at ts (slice_index_or bs j d).place).range range ≡ false
