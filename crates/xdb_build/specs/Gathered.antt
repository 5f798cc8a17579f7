-- What is gathered of tables: all their points in internal order, and all their spans in pieces.
use Rattle.std.specs.Prelude.{ℕ, List, map, Option, IsTrue}
use Rattle.xdb_key.specs.Entries.{Point, Tombstone}
use Rattle.xdb_key.specs.InOrder.{AreInOrder}
use Rattle.xdb_merge.specs.Tables.{content_of_tables, AreTold}
use Rattle.xdb_meta.specs.Table.{Table, bounds_of}
use Rattle.xdb_rangedel.specs.Content.{Item, IsClear, content_of, in_pieces}
use Rattle.xdb_rangedel.specs.Members.{Has, SameMembers}
use Rattle.xdb_rangedel.specs.Pieces.{AreFragments}
use Rattle.xdb_rangedel.specs.View.{lies_in}

-- the item lies within the bounds of one of the tables
abbrev pub LiesInOne : List Table → Item → Type 0
LiesInOne ts i = (t : Table) × Has ts t × IsTrue (lies_in (bounds_of t) i)

-- Over any files each entry and each span lies within the bounds of a table. Where the files tell their bytes and what
-- they hold together is clear, it is all that they hold, each once.
pub record IsGathered {F : Type 0} (bytes : F → Option (List ℕ)) (tables : List (Table × F)) (entries : List Point) (spans : List Tombstone) : Type 0 where
  pub order : AreInOrder entries
  pub fragments : AreFragments spans
  pub inside : (i : Item) → Has (content_of entries spans) i → LiesInOne (map (λ t. t.0) tables) i
  pub members : AreTold bytes tables → IsClear (content_of_tables bytes tables)
      → SameMembers (content_of entries spans) (in_pieces (content_of_tables bytes tables))
