-- What the loop of `next` keeps: each turn goes farther back.
use Rattle.std.proofs.Common.{◌≡◌}
use Rattle.xdb_mem.specs.Blocks.{IsBlock}
use Rattle.xdb_mem.proofs.index.next.Given as goal

abbrev pub invariant-loop-before : goal.invariant-loop-before
invariant-loop-before l = record {
  block : IsBlock l.spans l.blocks l.block;
  place : l.block.place ≡ l.place;
}

abbrev pub decreases-loop-before : goal.decreases-loop-before
decreases-loop-before l = l.block.from
