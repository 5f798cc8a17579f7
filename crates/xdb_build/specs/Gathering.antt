-- How it is gathered what tables have: each view is read, and what all have together is put in order.
use Rattle.std.specs.Prelude.{◌≡◌, ℕ, true, List, [], ◌∷◌, map, Option}
use Rattle.std.specs.List.{AllByRecursion}
use Rattle.xdb_key.specs.Entries.{Point, Tombstone}
use Rattle.xdb_key.specs.InOrder.{AreInOrder}
use Rattle.xdb_merge.specs.Layers.{content_of_layers}
use Rattle.xdb_merge.specs.Merge.{layer_of}
use Rattle.xdb_merge.specs.Steps.{IsLoaded, NamesDefect, views}
use Rattle.xdb_rangedel.specs.Content.{content_of}
use Rattle.xdb_rangedel.specs.Members.{Has, SameMembers}
use Rattle.xdb_rangedel.specs.Pieces.{is_ordered}
use Rattle.xdb_table_r.specs.Cursors.{Walk}
use Rattle.xdb_table_r.specs.Views.{Shown}
use Rattle.xdb_table_r.specs.declared.error.TableNo.{TableNo}
use Rattle.xdb_table_r.specs.declared.error.TableNo.TheVariants.{ReadFault, Damaged, Memory}

-- the entries in internal order; of those of one key, number and kind there is one
pub record AreSortedOf (given made : List Point) : Type 0 where
  pub order : AreInOrder made
  pub drawn : (p : Point) → Has made p → Has given p
  pub kept : (p : Point) → Has given p → (q : Point) × Has made q × (q.key ≡ p.key) × (q.seq ≡ p.seq)

module _ {F : Type 0} (bytes : F → Option (List ℕ)) where
  -- a cursor of each view is read, and the lists have what these have together
  pub record AreReadOf (vs : List (Shown F)) (entries : List Point) (spans : List Tombstone) : Type 0 where
    pub walks : List (Walk F)
    pub seen : views walks ≡ vs
    pub loaded : AllByRecursion (IsLoaded bytes) walks
    pub members : SameMembers (content_of entries spans) (content_of_layers (map layer_of walks))
    pub ordered : (t : Tombstone) → Has spans t → is_ordered t ≡ true

  -- the defect is the first of the points of one of the views; a fault and want of memory may come at any place
  abbrev pub NamesOneDefect : List (Shown F) → TableNo → Type 0
  NamesOneDefect vs (Damaged backing at) = (v : Shown F) × Has vs v × NamesDefect bytes (v ∷ []) (Damaged backing at)
  NamesOneDefect vs ReadFault = Unit {0}
  NamesOneDefect vs Memory = Unit {0}
