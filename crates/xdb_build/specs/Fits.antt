-- Which tables and files answer what is given for a flush or a compaction.
use Rattle.std.specs.Prelude.{◌≡◌, ℕ, ◌≤◌, List, drop, length, map, Option, IfSome}
use Rattle.std.specs.List.{AllByRecursion, flat_map, range_with_len}
use Rattle.xdb_device.specs.declared.fault.WorkCause.{WorkCause}
use Rattle.xdb_device.specs.declared.fault.WorkCause.TheVariants.{Fault, Damaged, Memory}
use Rattle.xdb_merge.specs.Tables.{IsDamage, AreTold as AreInputsTold}
use Rattle.xdb_meta.specs.Table.{Table}
use Rattle.xdb_rangedel.specs.Content.{Item, IsClear}
use Rattle.xdb_rangedel.specs.Members.{SameMembers}
use Rattle.xdb_build.specs.declared.parts.Built.{Built}
use Rattle.xdb_build.specs.Cuts.{AreCut}
use Rattle.xdb_build.specs.Given.{Given, mem_content, table_content, left_of}
use Rattle.xdb_build.specs.Outputs.{IsInFile, IsReachOf, Pairwise, IsPair, AreApart, LiesInHull, cuts, cut_at, AreTold, HasFragments, file_content, contents, BeginsWithEntry}

-- What the files of outputs hold of the content that was left: all of it, its spans cut where one output ends and the
-- next begins; each within the least bounds; and cut where they have to be, at the key of an entry.
pub record Hold (c : List Item) (most : ℕ) (tables : List Table) (outputs : List (List Item)) : Type 0 where
  pub members : SameMembers (flat_map (λ o. o) outputs) (cut_at (cuts tables) c)
  pub fragments : AllByRecursion HasFragments outputs
  pub reaches : Pairwise IsReachOf tables outputs
  pub cut : AreCut most outputs
  pub begin : Pairwise BeginsWithEntry (drop 1 tables) (drop 1 outputs)

module _ {F : Type 0} (size : F → ℕ) (bytes : F → Option (List ℕ)) where
  -- the one table of a flush
  pub record IsFlushed (g : Given F) (table : Table) (file : ℕ × F) : Type 0 where
    pub num : table.num ≡ g.first
    pub own : IsInFile size table file
    pub reach : IsReachOf table (left_of g (mem_content g))
    pub content : IfSome (bytes file.1) (λ b. SameMembers (file_content b) (left_of g (mem_content g)))
    pub fragments : IfSome (bytes file.1) (λ b. HasFragments (file_content b))

  abbrev pub FitsFlush : Given F → Built F → Type 0
  FitsFlush g out = IsPair (IsFlushed g) out.tables out.files

  -- The tables of a compaction. What is said of contents holds where the files tell their bytes and what they hold
  -- together is clear.
  pub record FitsCompaction (g : Given F) (out : Built F) : Type 0 where
    pub numbers : map (λ t. t.num) out.tables ≡ range_with_len g.first (length out.tables)
    pub few : length out.tables ≤ g.count
    pub own : Pairwise (IsInFile size) out.tables out.files
    pub apart : AreApart out.tables
    pub inside : AllByRecursion (LiesInHull (map (λ t. t.0) g.tables)) out.tables
    pub content : AreInputsTold bytes g.tables → AreTold bytes out.files → IsClear (table_content bytes g)
        → Hold (left_of g (table_content bytes g)) g.count out.tables (contents bytes out.files)

-- the defect is the first of the file of one of the tables
abbrev pub NamesInput : {F : Type 0} → (F → Option (List ℕ)) → List (Table × F) → WorkCause → Type 0
NamesInput bytes tables (Damaged backing at) = IsDamage bytes tables backing at
NamesInput bytes tables Fault = Unit {0}
NamesInput bytes tables Memory = Unit {0}
