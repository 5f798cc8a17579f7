-- What the tables of a version have, and what stands above and below those that a compaction takes.
use Rattle.std.specs.Prelude.{◌≡◌, ℕ, suc, ◌+◌, ◌<◌, ◌≤◌, Bool, true, ◌&&◌, not, ◌==◌, List, [], ◌∷◌, ◌++◌, map, filter, take, drop}
use Rattle.std.specs.List.{list_any, flat_map}
use Rattle.xdb_edit.specs.Changes.{Changes, changes}
use Rattle.xdb_edit.specs.Versions.{LevelLists, added_to, table_cmp, is_sorted}
use Rattle.xdb_meta.specs.Table.{Table}
use Rattle.xdb_rangedel.specs.Content.{Item, seq_of}
use Rattle.xdb_rangedel.specs.Layers.{IsAllBelow}
use Rattle.xdb_rangedel.specs.Members.{Has, SameMembers}
use Rattle.xdb_stripes.specs.declared.floor.Floor.{Floor}
use Rattle.xdb_stripes.specs.declared.floor.Floor.TheVariants.{All}
use Rattle.xdb_laws.specs.Compaction.{LiesBetween}
use Rattle.xdb_laws.specs.Ordered.{joined, StandsByNumber}
use Rattle.xdb_laws.specs.Rewrite.{IsMade}

-- the table of the level is an input, by level and number
abbrev pub is_input : List (ℕ × ℕ) → ℕ → Table → Bool
is_input inputs level t = list_any (λ r. r.0 == level && r.1 == t.num) inputs

-- of the tables of the levels from one on those that are inputs, and the others

abbrev pub inputs_from : List (ℕ × ℕ) → ℕ → LevelLists → List Table
inputs_from inputs level [] = []
inputs_from inputs level (ts ∷ rest) = filter (is_input inputs level) ts ++ inputs_from inputs (suc level) rest

abbrev pub others_from : List (ℕ × ℕ) → ℕ → LevelLists → List Table
others_from inputs level [] = []
others_from inputs level (ts ∷ rest) =
    filter (λ t. not (is_input inputs level t)) ts ++ others_from inputs (suc level) rest

-- the tables of all levels
abbrev pub tables_in : LevelLists → List Table
tables_in levels = flat_map (λ ts. ts) levels

-- A compaction of the level takes tables of it and those above it and of the next level, and adds tables to the next.
pub record IsCompactionEdit (level : ℕ) (e : Changes) : Type 0 where
  pub removed : (r : ℕ × ℕ) → Has e.removed r → r.0 ≤ suc level
  pub added : (a : ℕ × Table) → Has e.added a → a.0 ≡ suc level

module _ (content : Table → List Item) where
  -- the contents of the tables of each level
  abbrev pub contents : LevelLists → List (List (List Item))
  contents levels = map (map content) levels

  -- all that some tables have
  abbrev pub content_of : List Table → List Item
  content_of ts = flat_map content ts

  -- beside the inputs of a compaction of the level: the groups, and the tables down to the level that it writes to
  abbrev pub stands_above : List (List Item) → LevelLists → ℕ → List (ℕ × ℕ) → List Item
  stands_above groups levels level inputs =
      joined groups ++ content_of (others_from inputs 0 (take (suc (suc level)) levels))

  -- the tables of the levels below that
  abbrev pub stands_below : LevelLists → ℕ → List Item
  stands_below levels level = content_of (tables_in (drop (suc (suc level)) levels))

  -- A compaction that runs and isn't cancelled: what it was given lies between all else.
  abbrev pub IsUnderWay : List (List Item) → LevelLists → ℕ → List (ℕ × ℕ) → List Item → Floor → Type 0
  IsUnderWay groups levels level inputs given floor =
      LiesBetween given (stands_above groups levels level inputs) (stands_below levels level) floor

  -- the tables stand by the greatest number that is kept with each
  abbrev pub StandByNumber : List Item → ℕ → List Table → Type 0
  StandByNumber unflushed next l0 = (t : Table) → Has l0 t → StandsByNumber unflushed next t.seq_hi (content t)

  -- An edit puts what a flush made of the oldest group into L0.
  pub record IsFlushPut (group : List Item) (groups : List (List Item)) (l0 : List Table) (table : Table) (stripes : List ℕ)
      (next : ℕ) : Type 0 where
    pub sorted : is_sorted (table_cmp 0) l0 ≡ true
    pub stand : StandByNumber (joined (group ∷ groups)) next l0
    -- all numbers of the group are below the next one, and below those of the groups behind it
    pub below : IsAllBelow next group
    pub rising : (i j : Item) → Has group i → Has (joined groups) j → seq_of i < seq_of j
    -- the table is thinned from the group, and the number that is kept with it is its greatest
    pub made : IsMade group stripes All (content table)
    pub within : IsAllBelow (table.seq_hi + 1) (content table)
    pub greatest : (i : Item) × Has (content table) i × (seq_of i ≡ table.seq_hi)

  -- An edit puts what a compaction made of its inputs in their place.
  pub record IsPut (groups : List (List Item)) (levels : LevelLists) (level : ℕ) (e : Changes) (given : List Item)
      (stripes : List ℕ) (floor : Floor) : Type 0 where
    pub edit : IsCompactionEdit level e
    pub inputs : SameMembers given (content_of (inputs_from e.removed 0 levels))
    pub under_way : IsUnderWay groups levels level e.removed given floor
    pub made : IsMade given stripes floor (content_of (added_to e (suc level)))

-- the edit of a flush
abbrev pub flush_edit : Table → List ℕ → Changes
flush_edit table files = changes [] files ((0, table) ∷ [])
