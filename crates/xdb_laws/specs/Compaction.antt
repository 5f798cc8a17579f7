-- A compaction: content of some places above a level, and of the level, becomes tables of the level.
use Rattle.std.specs.Prelude.{ℕ, ◌≤◌, ◌⊎◌, List, ◌∷◌, ◌++◌, IsTrue}
use Rattle.xdb_key.specs.Bounds.{Bounds}
use Rattle.xdb_rangedel.specs.Content.{Item, seq_of, here, IsClear}
use Rattle.xdb_rangedel.specs.Members.{Has, SameMembers}
use Rattle.xdb_rangedel.specs.View.{lies_in}
use Rattle.xdb_stripes.specs.Floors.{floor_holds}
use Rattle.xdb_stripes.specs.declared.floor.Floor.{Floor}
use Rattle.xdb_laws.specs.Ordered.{IsNewer, joined, HasSource, AreLeftOf}
use Rattle.xdb_laws.specs.Rewrite.{IsMade}

-- What a running compaction was given, among all else: what stands above is newer at each key, and what stands below
-- is older and lies in the floor, wherever the given content has something.
pub record LiesBetween (given upper lower : List Item) (floor : Floor) : Type 0 where
  pub clear : IsClear given
  pub newer : IsNewer upper given
  pub older : IsNewer given lower
  pub floored : (k : List ℕ) (i j : Item) → Has given i → Has lower j → IsTrue (here k i) → IsTrue (here k j)
      → IsTrue (floor_holds floor k)

-- no key has items of both
abbrev pub ShareNoKey : List Item → List Item → Type 0
ShareNoKey a b = (k : List ℕ) (i j : Item) → Has a i → Has b j → IsTrue (here k i) → IsTrue (here k j) → ⊥

-- each item lies within one of the ranges
abbrev pub LiesWithin : List Bounds → List Item → Type 0
LiesWithin rs c = (i : Item) → Has c i → (r : Bounds) × Has rs r × IsTrue (lies_in r i)

-- A step changes what stands above and below: what is new above has numbers from the next one on, and nothing new
-- comes to stand below at a key of which the given content speaks.
pub record ChangesAround (next : ℕ) (given upper lower new_upper new_lower : List Item) : Type 0 where
  pub above : (k : List ℕ) (i : Item) → Has new_upper i → IsTrue (here k i) → HasSource upper k i ⊎ (next ≤ seq_of i)
  pub below : (k : List ℕ) (g i : Item) → Has given g → Has new_lower i → IsTrue (here k g) → IsTrue (here k i)
      → HasSource lower k i

-- A compaction as plain data: the places above the level that it writes to, the level, and the places below; what was
-- given, and what is left of the former two; and what was made.
pub record Move : Type 0 where
  pub above : List (List Item)
  pub level : List Item
  pub below : List (List Item)
  pub given : List Item
  pub left : List (List Item)
  pub rest : List Item
  pub made : List Item

abbrev pub places_before : Move → List (List Item)
places_before m = m.above ++ (m.level ∷ m.below)

abbrev pub places_after : Move → List (List Item)
places_after m = m.left ++ ((m.rest ++ m.made) ∷ m.below)

-- what stands above the given content, and what stands below it
abbrev pub upper_of : Move → List Item
upper_of m = joined m.left ++ m.rest

abbrev pub lower_of : Move → List Item
lower_of m = joined m.below

pub record IsCompaction (stripes : List ℕ) (floor : Floor) (m : Move) : Type 0 where
  -- the given content goes, and all else stays where it was
  pub left : AreLeftOf m.above m.left
  pub rest : (i : Item) → Has m.rest i → Has m.level i
  pub all : SameMembers (joined m.above ++ m.level) (upper_of m ++ m.given)
  -- it stands among the rest as when it was taken
  pub between : LiesBetween m.given (upper_of m) (lower_of m) floor
  pub made : IsMade m.given stripes floor m.made
