-- What the loop of `spans` keeps.
use Rattle.std.proofs.Common.{◌≡◌, take, IsTrue}
use Rattle.std.specs.List.{All}
use Rattle.xdb_key.specs.Order.{is_below}
use Rattle.xdb_stripes.specs.Steps.{at_zero}
use Rattle.xdb_stripes.proofs.floor.spans.Given as goal

abbrev pub invariant-loop-range : goal.invariant-loop-range
invariant-loop-range l = record {
  made : l.spans.items ≡ at_zero (take l.range-index l.ranges);
  ordered : All (λ r. IsTrue (is_below r.lo r.hi)) (take l.range-index l.ranges);
}
