use Rattle.xdb_block.proofs.SpanPairs.{all_apart}
use Rattle.xdb_block.proofs.laws.spans_are_apart.Goals as goal

pub returns : goal.returns
returns c = all_apart
