-- A flush: the content of the oldest group becomes a table of L0.
use Rattle.std.specs.Prelude.{ℕ, ◌≤◌, List, ◌∷◌, ◌++◌}
use Rattle.xdb_rangedel.specs.Content.{Item, seq_of}
use Rattle.xdb_rangedel.specs.Members.{Has}
use Rattle.xdb_stripes.specs.declared.floor.Floor.TheVariants.{All}
use Rattle.xdb_laws.specs.Ordered.{joined}
use Rattle.xdb_laws.specs.Rewrite.{IsMade}

-- A flush as plain data: the oldest group and the others, the tables of L0 that come to stand before the new table and
-- behind it, the levels below L0, and the new table.
pub record Flush : Type 0 where
  pub group : List Item
  pub groups : List (List Item)
  pub older : List (List Item)
  pub newer : List (List Item)
  pub lower : List (List (List Item))
  pub table : List Item

abbrev pub groups_before : Flush → List (List Item)
groups_before f = f.group ∷ f.groups

abbrev pub levels_before : Flush → List (List (List Item))
levels_before f = (f.older ++ f.newer) ∷ f.lower

abbrev pub levels_after : Flush → List (List (List Item))
levels_after f = (f.older ++ (f.table ∷ f.newer)) ∷ f.lower

-- The table is thinned from the group, and what stands behind it in L0 has no lesser number than it.
pub record IsFlush (stripes : List ℕ) (f : Flush) : Type 0 where
  pub made : IsMade f.group stripes All f.table
  pub place : (i j : Item) → Has f.table i → Has (joined f.newer) j → seq_of i ≤ seq_of j
