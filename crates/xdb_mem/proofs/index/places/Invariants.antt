-- What the loop of `places` keeps.
use Rattle.std.proofs.Common.{◌≡◌, take}
use Rattle.xdb_mem.specs.Blocks.{places_of}
use Rattle.xdb_mem.proofs.index.places.Given as goal

abbrev pub invariant-loop-block : goal.invariant-loop-block
invariant-loop-block l = l.out.items ≡ places_of (take l.block-index l.blocks)
