-- What the loop of `put_all` keeps.
use Rattle.std.proofs.Common.{◌+◌, ◌≤◌, ◌++◌, vec_len, vec_capacity}
use Rattle.xdb_rangedel.specs.Members.{SameMembers}
use Rattle.xdb_mem.specs.InOrder.{AreInOrder}
use Rattle.xdb_mem.proofs.mem.put_all.Given as goal

abbrev pub invariant-loop-entry : goal.invariant-loop-entry
invariant-loop-entry l = record {
  order : AreInOrder l.entries.items;
  members : SameMembers (l.entries.items ++ l.new.items) (l.fn.entries.items ++ l.fn.new.items);
  room : vec_len l.entries + vec_len l.new ≤ vec_capacity l.entries;
}

abbrev pub decreases-loop-entry : goal.decreases-loop-entry
decreases-loop-entry l = vec_len l.new
