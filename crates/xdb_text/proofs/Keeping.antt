-- A printer that stops leaves what was there in front.
use Rattle.std.proofs.Common.{◌≡◌, ℕ, List, ◌++◌, Result, Ok, Err, OnErr, ap, ◌∙◌, append_assoc}
use Rattle.xdb_text.specs.Kept.{Kept}

pub kept-then : (old mid new more : List ℕ) → mid ≡ old ++ more → Kept mid new → Kept old new
kept-then old mid new more first (rest, second) =
    (more ++ rest, second ∙ ap (λ xs. xs ++ rest) first ∙ append_assoc old more rest)

-- a loop's body stops
pub kept-in : {T E : Type 0} (r : Result T E) (old mid new more : List ℕ) → mid ≡ old ++ more → Kept mid new → OnErr r (Kept old new)
kept-in (Ok x) old mid new more first kept = tt
kept-in (Err e) old mid new more first kept = kept-then old mid new more first kept
