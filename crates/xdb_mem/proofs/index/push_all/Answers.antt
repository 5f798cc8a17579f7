-- What is left to answer of `push_all`.
use Rattle.std.proofs.Common.{sym, subst, arith}
use Rattle.xdb_mem.specs.Blocks.{IsBlock, AreBlocks, places_of}
use Rattle.xdb_mem.proofs.BlockLaws.{pushed_block, places_pushed}
use Rattle.xdb_mem.proofs.index.push_all.Goals as goal

pub loop-place-preserved : goal.loop-place-preserved
loop-place-preserved c =
    let ts = c.args.spans.now in
    let bs = c.loop-place.blocks.items in
    let b = c.next-block.result in
    let kept = c.loop-place.invariant in
    let made = c.in-Ok.ensures.items in
    let next = subst (λ xs. IsBlock ts xs b) c.deref.ensures.value c.next-block.ensures.block in
    record {
      blocks = subst (AreBlocks ts) (sym made) (pushed_block ts bs b kept.blocks next);
      places = places_pushed (places_of c.args.blocks.now.items) c.args.places.now bs c.push.new.self.items b c.loop-place.place-index 0 c.loop-place-test.true made c.next-block.ensures.place kept.places;
      room = omega (arith, kept.room, c.in-Ok.ensures.len, c.in-Ok.ensures.capacity, c.loop-place-test.true);
    }
