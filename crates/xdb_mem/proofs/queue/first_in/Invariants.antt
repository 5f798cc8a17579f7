-- What the loop of `first_in` keeps.
use Rattle.std.proofs.Common.{◌≡◌, ◌+◌, drop}
use Rattle.xdb_key.specs.Groups.{first_touching}
use Rattle.xdb_mem.specs.KeptQueue.{groups_from}
use Rattle.xdb_mem.proofs.queue.first_in.Given as goal

-- the first of those that are left is the first of all
abbrev pub invariant-loop-mem : goal.invariant-loop-mem
invariant-loop-mem l = record {
  number : l.num ≡ l.oldest + l.mem-index;
  others : first_touching l.ranges (groups_from l.num (drop l.mem-index l.groups)) ≡ first_touching l.ranges (groups_from l.oldest l.groups);
}
