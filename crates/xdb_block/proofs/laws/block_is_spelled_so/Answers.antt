use Rattle.xdb_block.proofs.BlockLaws.{block_takes}
use Rattle.xdb_block.proofs.laws.block_is_spelled_so.Goals as goal

pub returns : goal.returns
returns c = record {
  spelled = λ interval kind bytes rows fits e. (block_takes interval kind bytes rows fits e).is;
  within = λ interval kind bytes rows fits e. (block_takes interval kind bytes rows fits e).within;
}
