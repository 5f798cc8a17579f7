-- What the loop of `skip` keeps: each turn goes farther back.
use Rattle.std.proofs.Common.{◌≤◌}
use Rattle.xdb_mem.specs.Blocks.{AreApart}
use Rattle.xdb_mem.proofs.index.skip.Given as goal

abbrev pub invariant-loop-from : goal.invariant-loop-from
invariant-loop-from l = record {
  bound : l.left ≤ l.end;
  apart : AreApart l.spans l.blocks l.range l.left l.end;
}

abbrev pub decreases-loop-from : goal.decreases-loop-from
decreases-loop-from l = l.left
