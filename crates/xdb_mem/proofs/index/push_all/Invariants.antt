-- What the loop of `push_all` keeps.
use Rattle.std.proofs.Common.{◌≡◌, ◌+◌, ◌-◌, ◌≤◌, ◌++◌, length, take, vec_len, vec_capacity}
use Rattle.xdb_mem.specs.Blocks.{AreBlocks, places_of}
use Rattle.xdb_mem.proofs.index.push_all.Given as goal

abbrev pub invariant-loop-place : goal.invariant-loop-place
invariant-loop-place l = record {
  blocks : AreBlocks l.spans l.blocks.items;
  places : places_of l.blocks.items ≡ places_of l.fn.blocks.items ++ take l.place-index l.places;
  room : vec_len l.blocks + (length l.places - l.place-index) ≤ vec_capacity l.blocks;
}
