-- What is left to answer of `places`.
use Rattle.std.proofs.Common.{ap, ◌∙◌}
use Rattle.std.proofs.lemmas.List.{take_all}
use Rattle.xdb_mem.specs.Blocks.{places_of}
use Rattle.xdb_mem.proofs.BlockLaws.{places_more}
use Rattle.xdb_mem.proofs.index.places.Goals as goal

pub loop-block-preserved : goal.loop-block-preserved
loop-block-preserved c =
    c.in_ok-push.ensures.items ∙ places_more c.args.blocks.now c.loop-block.block-index (record { place = 0; from = 0; first = 0; last = 0 }) c.loop-block.out.items c.loop-block-test.true c.loop-block.invariant

pub returns : goal.returns
returns c = c.loop-block.invariant ∙ ap places_of (take_all c.loop-block.block-index c.args.blocks.now c.loop-block-test.false)
