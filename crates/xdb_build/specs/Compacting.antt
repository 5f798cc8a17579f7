-- How a compaction is made: what thinning leaves of the tables, and the outputs that are written of it.
use Rattle.std.specs.Prelude.{◌≡◌, ℕ, List, map, Option}
use Rattle.xdb_device.specs.Told.{Told}
use Rattle.xdb_key.specs.Entries.{Point, Tombstone}
use Rattle.xdb_key.specs.InOrder.{AreInOrder}
use Rattle.xdb_merge.specs.Tables.{AreTold}
use Rattle.xdb_rangedel.specs.Content.{Item, IsClear, content_of}
use Rattle.xdb_rangedel.specs.Members.{Has, SameMembers}
use Rattle.xdb_rangedel.specs.Pieces.{AreFragments}
use Rattle.xdb_work.specs.Work.{nums_of, AreHeld}
use Rattle.xdb_build.specs.Fits.{FitsCompaction}
use Rattle.xdb_build.specs.Gathered.{LiesInOne}
use Rattle.xdb_build.specs.Given.{Given, reserved, table_content, left_of}
use Rattle.xdb_build.specs.Series.{Stops}
use Rattle.xdb_build.specs.declared.series.Progress.{Progress}

-- What is left lies within the bounds of the tables. Where the files tell their bytes and what they hold together is
-- clear, it is what thinning leaves of that.
pub record IsLeft {F : Type 0} (bytes : F → Option (List ℕ)) (g : Given F) (entries : List Point) (spans : List Tombstone) : Type 0 where
  pub order : AreInOrder entries
  pub fragments : AreFragments spans
  pub inside : (i : Item) → Has (content_of entries spans) i → LiesInOne (map (λ t. t.0) g.tables) i
  pub members : AreTold bytes g.tables → IsClear (table_content bytes g)
      → SameMembers (content_of entries spans) (left_of g (table_content bytes g))

-- the outputs fit what is given, and the numbers that were tried are those of their files
pub record IsCompacted {F : Type 0} (size : F → ℕ) (bytes : F → Option (List ℕ)) (g : Given F) (made : Progress F) (start now : Told) : Type 0 where
  pub fits : FitsCompaction size bytes g (record { tables = made.tables.items; files = made.files.items })
  pub nums : nums_of made.files.items ≡ made.tried.items
  pub tried : Stops (reserved g) made.tried.items ⊥ start now
  pub held : AreHeld size bytes now.holds made.files.items
