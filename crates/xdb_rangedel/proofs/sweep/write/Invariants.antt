-- What the loop of `write` keeps.
use Rattle.std.proofs.Common.{◌≡◌, ◌≤◌, max, ℕ, cond, [], ◌∷◌, ◌++◌, get_or}
use Rattle.xdb_rangedel.specs.Sweep.{is_between}
use Rattle.xdb_rangedel.proofs.sweep.write.Given as goal

abbrev pub invariant-loop-at : goal.invariant-loop-at
invariant-loop-at l =
    (l.at ≤ max l.from l.to)
    × ((j : ℕ) → get_or l.columns j [] ≡ get_or l.initial.columns j [] ++ cond (is_between l.from l.at j) (l.seq ∷ []) [])
