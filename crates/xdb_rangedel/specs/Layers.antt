-- How contents stand to one another.
use Rattle.std.specs.Prelude.{◌≡◌, ℕ, ◌<◌, ◌≤◌, List, IsTrue}
use Rattle.xdb_rangedel.specs.Members.{Has}
use Rattle.xdb_rangedel.specs.Content.{Item, Verdict, found, deleted, nothing, seq_of, here, rank, said, is_seen}

-- all that the upper content holds at the key has greater numbers than what the lower one holds there
abbrev pub IsNewerAt : List ℕ → List Item → List Item → Type 0
IsNewerAt k upper lower =
    (i j : Item) → Has upper i → Has lower j → IsTrue (here k i) → IsTrue (here k j) → seq_of j < seq_of i

-- nothing that the upper content holds at the key stands below what the lower one holds there, and where two tie they say the same
pub record IsOverAt (k : List ℕ) (upper lower : List Item) : Type 0 where
  pub not_below : (i j : Item) → Has upper i → Has lower j → IsTrue (here k i) → IsTrue (here k j) → rank j ≤ rank i
  pub tied : (i j : Item) → Has upper i → Has lower j → IsTrue (here k i) → IsTrue (here k j) → rank i ≡ rank j → said i ≡ said j

-- the verdict of a layer, unless it says nothing
abbrev pub over : Verdict → Verdict → Verdict
over (found value) below = found value
over deleted below = deleted
over nothing below = below

-- every number is below the limit
abbrev pub IsAllBelow : ℕ → List Item → Type 0
IsAllBelow limit c = (i : Item) → Has c i → seq_of i < limit

-- no number is below the limit
abbrev pub IsAllFrom : ℕ → List Item → Type 0
IsAllFrom limit c = (i : Item) → Has c i → limit ≤ seq_of i

-- of the items that speak of the key at numbers below the limit, this one stands highest
pub record IsGreatest (c : List Item) (limit : ℕ) (k : List ℕ) (i : Item) : Type 0 where
  pub member : Has c i
  pub seen : IsTrue (is_seen limit k i)
  pub highest : (j : Item) → Has c j → IsTrue (is_seen limit k j) → rank j ≤ rank i

-- Each item of the new content has one in the old that speaks of the key too, stands at its rank and says the same.
abbrev pub IsDrawn : List Item → List Item → Type 0
IsDrawn old new =
    (k : List ℕ) (i : Item) → Has new i → IsTrue (here k i)
    → (j : Item) × Has old j × IsTrue (here k j) × (rank j ≡ rank i) × (said j ≡ said i)

-- the content holds nothing at the key
abbrev pub IsSilentAt : List ℕ → List Item → Type 0
IsSilentAt k c = (i : Item) → Has c i → IsTrue (here k i) → ⊥
