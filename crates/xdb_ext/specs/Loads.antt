-- What is given for the files of a load, and which files answer it.
use Rattle.std.specs.Prelude.{◌≡◌, ℕ, ◌^◌, ◌<◌, ◌≤◌, List, [], ◌∷◌, map, take, All, nat_eq, Option, IfSome, IsTrue}
use Rattle.std.specs.List.{IsDistinct}
use Rattle.xdb_device.specs.Told.{Told}
use Rattle.xdb_key.specs.Entries.{Reach}
use Rattle.xdb_key.specs.Ops.{is_table}
use Rattle.xdb_key.specs.declared.op.Op.{Op}
use Rattle.xdb_ext.specs.Operations.{IsFileOf}
use Rattle.xdb_ext.specs.TableBounds.{IsExtentOf}
use Rattle.xdb_work.specs.Work.{nums_of, Tried, AreHeld}

-- each table has a number that is reserved for it, and operations that make one
abbrev pub AreTables : List (ℕ × List Op) → Type 0
AreTables tables = All (λ t. IsTrue (is_table t.1)) tables

-- the files with their numbers, without their extents
abbrev pub numbered_files : {F : Type 0} → List (ℕ × Reach × F) → List (ℕ × F)
numbered_files files = map (λ f. (f.0, f.2)) files

-- The file has the table's number, and the table's bounds with the number 0. Where it tells its bytes, these are a
-- file of the table's operations.
pub record FitsTable {F : Type 0} (size : F → ℕ) (bytes : F → Option (List ℕ)) (table : ℕ × List Op) (file : ℕ × Reach × F) : Type 0 where
  pub num : file.0 ≡ table.0
  pub extent : IsExtentOf table.1 file.1
  pub long : (1 ≤ size file.2) × (size file.2 < 2 ^ 56)
  pub content : IfSome (bytes file.2) (IsFileOf table.1)

-- a file for each table, in their order
abbrev pub FitsLoad : {F : Type 0} → (F → ℕ) → (F → Option (List ℕ)) → List (ℕ × List Op) → List (ℕ × Reach × F) → Type 0
FitsLoad size bytes [] [] = Unit {0}
FitsLoad size bytes [] (f ∷ fs) = ⊥
FitsLoad size bytes (t ∷ ts) [] = ⊥
FitsLoad size bytes (t ∷ ts) (f ∷ fs) = FitsTable size bytes t f × FitsLoad size bytes ts fs

-- What was written of the first tables: their files, in order, the numbers that were tried, and what the device tells.
pub record Written {F : Type 0} (size : F → ℕ) (bytes : F → Option (List ℕ)) (tables : List (ℕ × List Op)) (i : ℕ) (tried : List ℕ) (files : List (ℕ × Reach × F)) (old now : Told) : Type 0 where
  pub fits : FitsLoad size bytes (take i tables) files
  pub numbers : tried ≡ take i (nums_of tables)
  pub told : Tried (nums_of tables) (take i (nums_of tables)) ⊥ old now
  pub held : IsDistinct nat_eq (nums_of tables) → AreHeld size bytes now.holds (numbered_files files)
