-- What the loop of `picked` keeps.
use Rattle.std.proofs.Common.{take}
use Rattle.xdb_rangedel.specs.Members.{SameMembers}
use Rattle.xdb_mem.specs.InOrder.{AreInOrder}
use Rattle.xdb_mem.specs.KeptQueue.{joined}
use Rattle.xdb_mem.specs.Parts.{picked}
use Rattle.xdb_mem.proofs.parts.picked.Given as goal

abbrev pub invariant-loop-mem : goal.invariant-loop-mem
invariant-loop-mem l = record {
  order : AreInOrder l.out.items;
  members : SameMembers l.out.items (picked l.range l.below (joined (take l.mem-index l.sealed)));
}
