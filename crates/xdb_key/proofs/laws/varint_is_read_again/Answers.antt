use Rattle.xdb_key.proofs.VarintLaws.{varint_at-again}
use Rattle.xdb_key.proofs.laws.varint_is_read_again.Goals as goal

pub returns : goal.returns
returns c = varint_at-again
