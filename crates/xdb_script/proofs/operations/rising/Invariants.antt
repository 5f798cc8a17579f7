use Rattle.std.proofs.Common.{◌≡◌, true, map}
use Rattle.std.specs.List.{flat_map, list_all}
use Rattle.xdb_script.specs.Answers.{rises}
use Rattle.xdb_script.specs.Drafts.{drafted}
use Rattle.xdb_script.specs.Rules.{op_ranges}
use Rattle.xdb_script.proofs.operations.rising.Given as goal

-- the drafts so far rise
abbrev pub invariant-loop-draft : goal.invariant-loop-draft
invariant-loop-draft l = record {
  same : l.ops.items ≡ map drafted l.yielded;
  rise : list_all rises (flat_map op_ranges (map drafted l.yielded)) ≡ true;
}
