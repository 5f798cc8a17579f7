use Rattle.std.proofs.Common.{◌≡◌, ℕ, ◌<◌, false, get_or}
use Rattle.std.specs.Borrow.{Bor}
use Rattle.xdb_script.specs.Reading.{is_excise}
use Rattle.xdb_script.proofs.client.excise_at.Given as goal

-- no word so far is `excise`
abbrev pub invariant-loop-at : goal.invariant-loop-at
invariant-loop-at l = (k : ℕ) (d : Bor _) → k < l.at → is_excise (get_or l.words k d).now ≡ false
