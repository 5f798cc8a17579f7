-- A law of lists that the standard library doesn't have.
use Rattle.std.proofs.Common.{◌≡◌, ℕ, ◌-◌, List, length, drop, take, sym, ap, ◌∙◌}
use Rattle.std.specs.List.{slice_range}
use Rattle.std.proofs.lemmas.List.{take_rest}

-- a part that goes up to the end
pub range_to_end : (xs : List ℕ) (from to : ℕ) → length xs ≡ to → slice_range xs from to ≡ drop from xs
range_to_end xs from to is = ap (λ n. take (n - from) (drop from xs)) (sym is) ∙ take_rest xs from
