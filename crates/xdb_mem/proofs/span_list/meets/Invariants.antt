-- What the loop of `meets` keeps: what is left decides.
use Rattle.std.proofs.Common.{◌≤◌, length}
use Rattle.xdb_mem.proofs.WalkLaws.{NoneFrom}
use Rattle.xdb_mem.proofs.span_list.meets.Given as goal

abbrev pub invariant-loop-left : goal.invariant-loop-left
invariant-loop-left l = record {
  bound : l.left ≤ length l.index;
  none : NoneFrom l.spans l.index l.range l.below l.left;
}

abbrev pub decreases-loop-left : goal.decreases-loop-left
decreases-loop-left l = l.left
