-- What is given for a build of tables, and what its files have to hold.
use Rattle.std.specs.Prelude.{ℕ, ◌+◌, ◌^◌, ◌≤◌, List, Option}
use Rattle.std.specs.List.{range_with_len}
use Rattle.std.specs.List.Sorted.{IsNonDecreasing}
use Rattle.xdb_mem.specs.Parts.{Parts}
use Rattle.xdb_merge.specs.Tables.{content_of_tables}
use Rattle.xdb_meta.specs.Table.{Table}
use Rattle.xdb_rangedel.specs.Content.{Item, content_of}
use Rattle.xdb_stripes.specs.declared.floor.Floor.{Floor}
use Rattle.xdb_stripes.specs.Thinned.{thinned}

-- what a group of memtables has, or tables with their files; what may be left out of it; and the first of the file
-- numbers that are reserved, with their count
pub record Given (F : Type 0) : Type 0 where
  pub mem : Parts
  pub tables : List (Table × F)
  pub stripes : List ℕ
  pub floor : Floor
  pub first : ℕ
  pub count : ℕ

-- the stripes stand in order, and the reserved numbers are some file numbers
pub record IsGiven {F : Type 0} (g : Given F) : Type 0 where
  pub stripes : IsNonDecreasing g.stripes
  pub first : 1 ≤ g.first
  pub count : 1 ≤ g.count
  pub upto : g.first + g.count ≤ 2 ^ 56

abbrev pub reserved : {F : Type 0} → Given F → List ℕ
reserved g = range_with_len g.first g.count

-- the content of the memtables
abbrev pub mem_content : {F : Type 0} → Given F → List Item
mem_content g = content_of g.mem.entries g.mem.spans

-- the content of the tables, where their files tell their bytes
abbrev pub table_content : {F : Type 0} → (F → Option (List ℕ)) → Given F → List Item
table_content bytes g = content_of_tables bytes g.tables

-- what thinning leaves of a given content
abbrev pub left_of : {F : Type 0} → Given F → List Item → List Item
left_of g c = thinned c g.stripes g.floor
