-- What the loop of `lay` keeps.
use Rattle.std.proofs.Common.{◌≡◌, ◌-◌, ◌≤◌, max, length}
use Rattle.xdb_rangedel.specs.Sweep.{laid}
use Rattle.xdb_rangedel.proofs.sweep.lay.Given as goal

abbrev pub invariant-loop-end : goal.invariant-loop-end
invariant-loop-end l = (l.end ≤ max 1 (length l.bounds)) × (l.out.items ≡ laid l.bounds l.columns (l.end - 1))
