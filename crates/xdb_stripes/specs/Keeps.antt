-- What thinning keeps of a content's meaning.
use Rattle.std.specs.Prelude.{◌≡◌, ℕ, Bool, false, ◌⊎◌, List, Option, IsTrue}
use Rattle.xdb_key.specs.Bounds.{covers}
use Rattle.xdb_key.specs.Entries.{Tombstone}
use Rattle.xdb_rangedel.specs.Members.{Has}
use Rattle.xdb_rangedel.specs.Content.{Item, entry, span, Verdict, deleted, nothing, verdict}
use Rattle.xdb_rangedel.specs.Layers.{IsAllBelow}
use Rattle.xdb_stripes.specs.declared.floor.Floor.{Floor}
use Rattle.xdb_stripes.specs.Floors.{floor_holds}

-- where a content is still looked at: at a stripe, or above all its numbers
abbrev pub IsLimit : List Item → List ℕ → ℕ → Type 0
IsLimit c stripes limit = Has stripes limit ⊎ IsAllBelow limit c

-- the verdicts agree, or a delete became nothing where the floor doesn't hold the key
abbrev pub Agree : Verdict → Verdict → Bool → Type 0
Agree before after held = (before ≡ after) ⊎ ((before ≡ deleted) × (after ≡ nothing) × (held ≡ false))

pub record Keeps (before after : List Item) (stripes : List ℕ) (floor : Floor) : Type 0 where
  -- at each limit the two say the same of each key, but for deletes that hide nothing below
  pub verdicts : (k : List ℕ) (limit : ℕ) → IsLimit before stripes limit
      → Agree (verdict before limit k) (verdict after limit k) (floor_holds floor k)
  -- no entry is new
  pub entries : (key : List ℕ) (seq : ℕ) (value : Option (List ℕ))
      → Has after (entry key seq value) → Has before (entry key seq value)
  -- each span lies in one that was there, with its number
  pub spans : (t : Tombstone) → Has after (span t)
      → (s : Tombstone) × Has before (span s) × IsTrue (covers s.range t.range) × (s.seq ≡ t.seq)
