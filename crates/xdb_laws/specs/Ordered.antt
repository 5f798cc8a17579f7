-- How contents stand over one another: from the newest place to the oldest, with falling numbers at each key.
use Rattle.std.specs.Prelude.{◌≡◌, ℕ, ◌+◌, ◌<◌, ◌≤◌, ◌⊎◌, List, [], ◌∷◌, ◌++◌, map, reverse, IsTrue}
use Rattle.std.specs.List.{flat_map}
use Rattle.xdb_rangedel.specs.Content.{Item, seq_of, here, rank, said, IsClear}
use Rattle.xdb_rangedel.specs.Layers.{IsNewerAt, IsAllBelow, IsAllFrom, IsDrawn}
use Rattle.xdb_rangedel.specs.Members.{Has}

-- at each key the upper content has only greater numbers than the lower one
abbrev pub IsNewer : List Item → List Item → Type 0
IsNewer upper lower = (k : List ℕ) → IsNewerAt k upper lower

-- all that the contents have
abbrev pub joined : List (List Item) → List Item
joined cs = flat_map (λ c. c) cs

-- places from the newest to the oldest: each is clear, and newer than all that stands behind it
abbrev pub Ordered : List (List Item) → Type 0
Ordered [] = Unit {0}
Ordered (place ∷ older) = IsClear place × IsNewer place (joined older) × Ordered older

-- What an engine has: its groups, the oldest first, and the tables of each level from L0 on, those of L0 in the order of
-- the greatest numbers that are kept with them.

-- all of it
abbrev pub whole : List (List Item) → List (List (List Item)) → List Item
whole groups levels = joined groups ++ flat_map joined levels

-- its places, from the newest to the oldest: a group, a table of L0 or a level below L0 is one
abbrev pub places : List (List Item) → List (List (List Item)) → List (List Item)
places groups [] = reverse groups
places groups (l0 ∷ lower) = reverse groups ++ (reverse l0 ++ map joined lower)

-- an item of the content speaks of the key too, at the same rank, and says the same
abbrev pub HasSource : List Item → List ℕ → Item → Type 0
HasSource old k i = (j : Item) × Has old j × IsTrue (here k j) × (rank j ≡ rank i) × (said j ≡ said i)

-- what is left of places, in their order: each is drawn from one of them
abbrev pub AreLeftOf : List (List Item) → List (List Item) → Type 0
AreLeftOf [] [] = Unit {0}
AreLeftOf [] (c ∷ cs) = ⊥
AreLeftOf (p ∷ ps) [] = Unit {0}
AreLeftOf (p ∷ ps) (c ∷ cs) = (IsDrawn p c × AreLeftOf ps cs) ⊎ AreLeftOf ps (c ∷ cs)

-- every number is below the next one, and no mark passes it
pub record IsNumberedUpTo (next : ℕ) (c : List Item) (marks : List ℕ) : Type 0 where
  pub numbers : IsAllBelow next c
  pub upto : (m : ℕ) → Has marks m → m ≤ next

-- A table of L0, whose place goes by the greatest number that is kept with it, beside the operations that aren't in
-- tables yet. A flushed table's numbers are below all of theirs; a loaded one has a single number.
pub record StandsByNumber (unflushed : List Item) (next greatest : ℕ) (table : List Item) : Type 0 where
  pub below : greatest < next
  pub within : IsAllBelow (greatest + 1) table
  pub apart : IsAllFrom (greatest + 1) unflushed ⊎ ((i : Item) → Has table i → seq_of i ≡ greatest)
