-- What the loop of `entries` keeps.
use Rattle.std.proofs.Common.{◌≡◌, ◌+◌, take}
use Rattle.xdb_mem.specs.Numbered.{numbered, points}
use Rattle.xdb_mem.proofs.numbering.entries.Given as goal

abbrev pub invariant-loop-op : goal.invariant-loop-op
invariant-loop-op l = record {
  made : l.out.items ≡ points (numbered l.first (take l.op-index l.ops));
  number : l.seq ≡ l.first + l.op-index;
}
