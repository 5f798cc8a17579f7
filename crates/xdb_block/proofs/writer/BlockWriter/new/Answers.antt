use Rattle.xdb_block.proofs.DraftLaws.{begins, no_rows}
use Rattle.xdb_block.proofs.writer.BlockWriter.new.Goals as goal

pub invariant_of-result : goal.invariant_of-result
invariant_of-result c = begins c.args.interval _ _ _ c.requires c.new.ensures.items c.new-2.ensures.items c.new-3.ensures.items

pub returns : goal.returns
returns c = no_rows c.args.interval _ c.new.ensures.items
