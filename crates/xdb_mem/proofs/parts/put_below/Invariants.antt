-- What the loop of `put_below` keeps.
use Rattle.std.proofs.Common.{◌++◌, take}
use Rattle.std.specs.List.{filter}
use Rattle.xdb_rangedel.specs.Members.{SameMembers}
use Rattle.xdb_mem.specs.InOrder.{AreInOrder}
use Rattle.xdb_mem.proofs.PickLaws.{is_under}
use Rattle.xdb_mem.proofs.parts.put_below.Given as goal

abbrev pub invariant-loop-entry : goal.invariant-loop-entry
invariant-loop-entry l = record {
  order : AreInOrder l.out.items;
  members : SameMembers l.out.items (l.fn.out.items ++ filter (is_under l.below) (take l.entry-index l.entries));
}
