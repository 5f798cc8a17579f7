-- What the loop of `clip` keeps: the parts of the spans behind those that are left.
use Rattle.std.proofs.Common.{◌≤◌, length, IsTrue}
use Rattle.std.specs.List.{All}
use Rattle.xdb_rangedel.specs.Pieces.{is_ordered}
use Rattle.xdb_mem.proofs.WalkLaws.{Clips}
use Rattle.xdb_mem.proofs.span_list.clip.Given as goal

abbrev pub invariant-loop-left : goal.invariant-loop-left
invariant-loop-left l = record {
  bound : l.left ≤ length l.index;
  clips : Clips l.spans l.index l.range l.below l.fn.out.items l.left l.out.items;
  ordered : All (λ t. IsTrue (is_ordered t)) l.fn.out.items → All (λ t. IsTrue (is_ordered t)) l.out.items;
}

abbrev pub decreases-loop-left : goal.decreases-loop-left
decreases-loop-left l = l.left
