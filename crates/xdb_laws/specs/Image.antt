-- The map that a content stands for at a number.
use Rattle.std.specs.Prelude.{◌≡◌, ℕ, List, [], ◌∷◌, Option, Some, None, IsTrue}
use Rattle.std.specs.FinMap as map
use Rattle.xdb_key.specs.Bounds.{Bounds, holds}
use Rattle.xdb_plain.specs.PlainMap.{PlainMap}
use Rattle.xdb_rangedel.specs.Content.{Item, entry, span, verdict, value_of}

-- the keys of entries
abbrev pub keys_in : List Item → List (List ℕ)
keys_in [] = []
keys_in (entry key seq value ∷ c) = key ∷ keys_in c
keys_in (span t ∷ c) = keys_in c

abbrev pub with_value : List ℕ → Option (List ℕ) → PlainMap → PlainMap
with_value key None m = m
with_value key (Some value) m = map.insert m key value

-- each of the keys whose verdict is a value, with that value
abbrev pub image_over : List (List ℕ) → List Item → ℕ → PlainMap
image_over [] c limit = map.empty
image_over (key ∷ keys) c limit = with_value key (value_of (verdict c limit key)) (image_over keys c limit)

-- the image of a content: it has each key whose verdict is a value, with that value
abbrev pub image : List Item → ℕ → PlainMap
image c limit = image_over (keys_in c) c limit

-- what a map has in a range
abbrev pub inside : Bounds → PlainMap → PlainMap
inside r m = map.retain_keys m (holds r)

-- two maps have the same in a range
abbrev pub AreAlikeIn : Bounds → PlainMap → PlainMap → Type 0
AreAlikeIn r m n = (k : List ℕ) → IsTrue (holds r k) → map.get m k ≡ map.get n k
