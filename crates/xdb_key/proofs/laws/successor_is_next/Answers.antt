use Rattle.xdb_key.proofs.OrderLaws.{below-successor}
use Rattle.xdb_key.proofs.laws.successor_is_next.Goals as goal

pub returns : goal.returns
returns c = below-successor
