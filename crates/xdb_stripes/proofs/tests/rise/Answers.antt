-- What is left to answer of `rise`.
use Rattle.std.proofs.Common.{length, get_or, ◌+◌, ◌<◌, ℕ}
use Rattle.std.proofs.lemmas.Bool.{MatchBool-at_true}
use Rattle.std.proofs.lemmas.List.Sorted.{non_decreasing_from_is_sorted}
use Rattle.std.specs.List.Sorted.{IsNonDecreasing}
use Rattle.xdb_stripes.proofs.tests.rise.Goals as goal

pub returns : goal.returns
returns c = λ yes.
    let xs = c.args.stripes.now in
    MatchBool-at_true (IsNonDecreasing xs) ((k : ℕ) × (k + 1 < length xs) × ((d : ℕ) → get_or xs (k + 1) d < get_or xs k d)) yes (non_decreasing_from_is_sorted xs c.is_sorted.result c.is_sorted.ensures.cases)
