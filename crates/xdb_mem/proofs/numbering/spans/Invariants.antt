-- What the loop of `spans` keeps.
use Rattle.std.proofs.Common.{◌≡◌, ◌+◌, take}
use Rattle.xdb_mem.specs.Numbered.{numbered, spans}
use Rattle.xdb_mem.proofs.numbering.spans.Given as goal

abbrev pub invariant-loop-op : goal.invariant-loop-op
invariant-loop-op l = record {
  made : l.out.items ≡ spans (numbered l.first (take l.op-index l.ops));
  number : l.seq ≡ l.first + l.op-index;
}
