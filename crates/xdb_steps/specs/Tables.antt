-- What the tables of a version have, as far as their files tell.
use Rattle.std.specs.Prelude.{◌≡◌, ℕ, ◌≤◌, List, [], ◌∷◌, ◌++◌, IsTrue}
use Rattle.xdb_edit.specs.Versions.{LevelLists}
use Rattle.xdb_key.specs.Bounds.{Bounds, covers}
use Rattle.xdb_laws.specs.Excises.{item_hull}
use Rattle.xdb_laws.specs.Ordered.{StandsByNumber}
use Rattle.xdb_meta.specs.Table.{Table, bounds_of}
use Rattle.xdb_rangedel.specs.Content.{Item, seq_of}
use Rattle.xdb_rangedel.specs.Members.{Has}

-- What each table of each level has.
abbrev pub Contents : Type 0
Contents = List (List (List Item))

-- seven levels without tables
abbrev pub no_contents : Contents
no_contents = [] ∷ [] ∷ [] ∷ [] ∷ [] ∷ [] ∷ [] ∷ []

-- the lists are equally long, and the relation holds at each place
abbrev pub SideBySide : {A B : Type 0} → (A → B → Type 0) → List A → List B → Type 0
SideBySide R [] [] = Unit {0}
SideBySide R [] (y ∷ ys) = ⊥
SideBySide R (x ∷ xs) [] = ⊥
SideBySide R (x ∷ xs) (y ∷ ys) = R x y × SideBySide R xs ys

-- The table's bounds are the least around all that it has, and its numbers are around the numbers of that.
pub record IsTableOf (t : Table) (c : List Item) : Type 0 where
  pub inside : (i : Item) → Has c i → IsTrue (covers (bounds_of t) (item_hull i))
  pub lo : (i : Item) × Has c i × ((item_hull i).lo ≡ t.lo)
  pub hi : (i : Item) × Has c i × ((item_hull i).hi ≡ t.hi)
  pub numbers : (i : Item) → Has c i → (t.seq_lo ≤ seq_of i) × (seq_of i ≤ t.seq_hi)

-- the contents are those of the tables, level by level
abbrev pub AreTables : LevelLists → Contents → Type 0
AreTables levels contents = SideBySide (SideBySide IsTableOf) levels contents

-- the contents of L0
abbrev pub l0_of : Contents → List (List Item)
l0_of [] = []
l0_of (l0 ∷ lower) = l0

-- the tables stand by the greatest number that is kept with each, beside the operations that aren't in tables yet
abbrev pub StandInL0 : List Item → ℕ → List Table → List (List Item) → Type 0
StandInL0 unflushed next ts cs = SideBySide (λ t c. StandsByNumber unflushed next t.seq_hi c) ts cs

-- tables as their bounds and what they have
abbrev pub with_bounds : List Table → List (List Item) → List (Bounds × List Item)
with_bounds [] cs = []
with_bounds (t ∷ ts) [] = []
with_bounds (t ∷ ts) (c ∷ cs) = (bounds_of t, c) ∷ with_bounds ts cs

-- those of all levels
abbrev pub all_with_bounds : LevelLists → Contents → List (Bounds × List Item)
all_with_bounds [] contents = []
all_with_bounds (ts ∷ levels) [] = []
all_with_bounds (ts ∷ levels) (cs ∷ contents) = with_bounds ts cs ++ all_with_bounds levels contents
