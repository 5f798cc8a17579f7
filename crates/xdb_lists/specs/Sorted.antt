-- Lists in the order of a comparison, and elements put in at their places.
use Rattle.std.specs.Prelude.{Bool, true, ◌&&◌, List, [], ◌∷◌, if◌then◌else◌}
use Rattle.std.specs.declared.cmp.Ordering.{Ordering}
use Rattle.std.specs.List.{list_all}
use Rattle.std.specs.Ordering.{is_lt, is_le}

-- each element comes before those behind it, or ties with them
abbrev pub is_sorted : {X : Type 0} → (X → X → Ordering) → List X → Bool
is_sorted cmp [] = true
is_sorted cmp (x ∷ xs) = list_all (λ u. is_le (cmp x u)) xs && is_sorted cmp xs

-- the list with one more, before the first that isn't before it
abbrev pub put_in : {X : Type 0} → (X → X → Ordering) → X → List X → List X
put_in cmp t [] = t ∷ []
put_in cmp t (x ∷ xs) = if is_lt (cmp x t) then x ∷ put_in cmp t xs else t ∷ x ∷ xs

-- the list with each of some more, one after the other
abbrev pub put_all_in : {X : Type 0} → (X → X → Ordering) → List X → List X → List X
put_all_in cmp [] ts = ts
put_all_in cmp (x ∷ xs) ts = put_all_in cmp xs (put_in cmp x ts)
