-- What the loop of `clipped` keeps.
use Rattle.std.proofs.Common.{take, IsTrue}
use Rattle.std.specs.List.{All}
use Rattle.xdb_rangedel.specs.Members.{SameMembers}
use Rattle.xdb_rangedel.specs.Pieces.{is_ordered}
use Rattle.xdb_mem.specs.KeptQueue.{joined}
use Rattle.xdb_mem.specs.Parts.{clipped}
use Rattle.xdb_mem.proofs.parts.clipped.Given as goal

abbrev pub invariant-loop-mem : goal.invariant-loop-mem
invariant-loop-mem l = record {
  parts : SameMembers l.out.items (clipped l.range l.below (joined (take l.mem-index l.sealed)));
  ordered : All (λ t. IsTrue (is_ordered t)) l.out.items;
}
