use Rattle.std.proofs.Common.{◌≡◌, true}
use Rattle.std.specs.List.{list_all}
use Rattle.xdb_script.specs.Answers.{rises}
use Rattle.xdb_script.proofs.operands.rising.Given as goal

-- the pairs so far rise
abbrev pub invariant-loop-pair : goal.invariant-loop-pair
invariant-loop-pair l = record {
  same : l.ranges.items ≡ l.yielded;
  rise : list_all rises l.yielded ≡ true;
}
