use Rattle.xdb_block.proofs.BlockLaws.{block_again}
use Rattle.xdb_block.proofs.laws.block_is_read_again.Goals as goal

pub returns : goal.returns
returns c = block_again
