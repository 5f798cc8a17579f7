-- What is left to answer of `next`.
use Rattle.std.proofs.Common.{refl, ◌∙◌}
use Rattle.xdb_mem.proofs.BlockLaws.{own_block, joined_block}
use Rattle.xdb_mem.proofs.index.next.Goals as goal

pub loop-before-init : goal.loop-before-init
loop-before-init c = record {
  block = own_block c.args.spans.now c.args.blocks.now _ c.args.place c.requires.inside refl refl refl refl;
  place = refl;
}

pub loop-before-preserved : goal.loop-before-preserved
loop-before-preserved c =
    let kept = c.loop-before.invariant in
    record {
      block = joined_block c.args.spans.now c.args.blocks.now c.in-Some.before c.loop-before.block c.joined-block.result c.requires.blocks kept.block
          (record { some = c.in-Some.ensures.0; bound = kept.block.back; is = c.in-Some.ensures.1 })
          c.joined-block.ensures.place c.joined-block.ensures.from c.joined-block.ensures.inside c.joined-block.ensures.before c.joined-block.ensures.block;
      place = c.joined-block.ensures.place ∙ kept.place;
    }
