-- What is left of a content where the keys of a span are taken out of it.
use Rattle.std.specs.Prelude.{◌≡◌, ℕ, Bool, false, List, [], ◌∷◌, Option, Some, None, IsTrue, if◌then◌else◌}
use Rattle.xdb_key.specs.Bounds.{Bounds, bounds, holds, covers, key_hull}
use Rattle.xdb_rangedel.specs.Clip.{earlier_of, later_of}
use Rattle.xdb_rangedel.specs.Content.{Item, entry, span, seq_of, here, newest}
use Rattle.xdb_rangedel.specs.Layers.{IsDrawn, IsSilentAt}
use Rattle.xdb_rangedel.specs.Members.{Has}
use Rattle.xdb_rangedel.specs.View.{view}

-- the span has the key, where there is one
abbrev pub is_cut : Option Bounds → List ℕ → Bool
is_cut None k = false
is_cut (Some out) k = holds out k

-- Inside the span nothing is left. Outside all is said as before, at every number, by items that were there.
pub record Excised (out : Option Bounds) (old new : List Item) : Type 0 where
  pub says : (limit : ℕ) (k : List ℕ) → newest new limit k ≡ (if is_cut out k then None else newest old limit k)
  pub drawn : IsDrawn old new
  pub numbers : (i : Item) → Has new i → (j : Item) × Has old j × (seq_of j ≡ seq_of i)

-- part by part
abbrev pub AreExcised : Option Bounds → List (List Item) → List (List Item) → Type 0
AreExcised out [] [] = Unit {0}
AreExcised out (old ∷ olds) (new ∷ news) = Excised out old new × AreExcised out olds news
AreExcised out _ _ = ⊥

-- the content speaks of no key of the range
abbrev pub IsSilentIn : Bounds → List Item → Type 0
IsSilentIn r c = (k : List ℕ) → IsTrue (holds r k) → IsSilentAt k c

-- the content speaks of keys of the range alone
abbrev pub KeepsTo : Bounds → List Item → Type 0
KeepsTo r c = (k : List ℕ) (i : Item) → Has c i → IsTrue (here k i) → IsTrue (holds r k)

-- the keys of a range before a span, and those behind it
abbrev pub keys_before : Bounds → Bounds → Bounds
keys_before shown out = bounds shown.lo (earlier_of out.lo shown.hi)

abbrev pub keys_behind : Bounds → Bounds → Bounds
keys_behind shown out = bounds (later_of out.hi shown.lo) shown.hi

-- the keys that an item speaks of
abbrev pub item_hull : Item → Bounds
item_hull (entry key seq value) = key_hull key
item_hull (span t) = t.range

-- Bounds for what a file shows on one side of a span: they lie on that side, and around all that is shown there.
-- There are none only where nothing is shown.
abbrev pub AreHalfBounds : List Item → Bounds → ℕ → Option Bounds → Type 0
AreHalfBounds file side synthetic None = (i : Item) → Has (view file side synthetic) i → ⊥
AreHalfBounds file side synthetic (Some b) =
    IsTrue (covers side b) × ((i : Item) → Has (view file side synthetic) i → IsTrue (covers b (item_hull i)))

-- the content of a half: what the file shows in its bounds
abbrev pub half : List Item → ℕ → Option Bounds → List Item
half file synthetic None = []
half file synthetic (Some b) = view file b synthetic
