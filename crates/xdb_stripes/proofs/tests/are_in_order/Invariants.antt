-- What the loop of `are_in_order` keeps: each entry so far stands before the next.
use Rattle.std.proofs.Common.{◌≡◌, ℕ, ◌+◌, ◌<◌, true, get_or}
use Rattle.xdb_key.specs.Entries.{Point}
use Rattle.xdb_key.specs.InOrder.{comes_before}
use Rattle.xdb_stripes.proofs.tests.are_in_order.Given as goal

abbrev pub invariant-loop-at : goal.invariant-loop-at
invariant-loop-at l = (k : ℕ) (d : Point) → k + 1 < l.at → comes_before (get_or l.entries k d) (get_or l.entries (k + 1) d) ≡ true
