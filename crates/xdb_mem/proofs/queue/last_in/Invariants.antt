-- What the loop of `last_in` keeps.
use Rattle.std.proofs.Common.{◌≡◌, ◌+◌, drop}
use Rattle.xdb_key.specs.Groups.{last_touching, later}
use Rattle.xdb_mem.specs.KeptQueue.{groups_from}
use Rattle.xdb_mem.proofs.queue.last_in.Given as goal

-- the last so far, or the last of those that are left, is the last of all
abbrev pub invariant-loop-mem : goal.invariant-loop-mem
invariant-loop-mem l = record {
  number : l.num ≡ l.oldest + l.mem-index;
  others : later l.last (last_touching l.ranges l.below (groups_from l.num (drop l.mem-index l.groups))) ≡ last_touching l.ranges l.below (groups_from l.oldest l.groups);
}
