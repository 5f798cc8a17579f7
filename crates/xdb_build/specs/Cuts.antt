-- Where an output ends: before the next user key, once what it has of points weighs 65,536 or more.
use Rattle.std.specs.Prelude.{ℕ, ◌+◌, ◌-◌, ◌<◌, ◌≤◌, Bool, false, List, length, map, sum, take, Option, Some, None}
use Rattle.std.specs.List.{AllByRecursion, filter}
use Rattle.xdb_key.specs.Order.{is_below}
use Rattle.xdb_rangedel.specs.Content.{Item, entry, span}
use Rattle.xdb_rangedel.specs.Members.{Has}

-- the lengths of key and value, and 8; a span weighs nothing
abbrev pub weight : Item → ℕ
weight (entry key seq None) = length key + 8
weight (entry key seq (Some value)) = length key + 8 + length value
weight (span t) = 0

abbrev pub weight_of : List Item → ℕ
weight_of c = sum (map weight c)

-- an entry of a key before this one
abbrev pub is_before : List ℕ → Item → Bool
is_before k (entry key seq value) = is_below key k
is_before k (span t) = false

abbrev pub weight_before : List ℕ → List Item → ℕ
weight_before k c = weight_of (filter (is_before k) c)

-- an output that ends
abbrev pub IsFull : List Item → Type 0
IsFull c = 65536 ≤ weight_of c

-- an output that hasn't ended before its last key: each key joined it when what it had weighed less
abbrev pub IsOpen : List Item → Type 0
IsOpen c = (key : List ℕ) (seq : ℕ) (value : Option (List ℕ)) → Has c (entry key seq value) → weight_before key c < 65536

-- Of at most so many outputs, each but the last is full. None is full before its last key, but the last that there may
-- be takes the rest.
pub record AreCut (most : ℕ) (outputs : List (List Item)) : Type 0 where
  pub full : AllByRecursion IsFull (take (length outputs - 1) outputs)
  pub open_ : AllByRecursion IsOpen (take (most - 1) outputs)
