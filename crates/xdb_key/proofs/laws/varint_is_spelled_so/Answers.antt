use Rattle.xdb_key.proofs.VarintLaws.{varint_at-takes}
use Rattle.xdb_key.proofs.laws.varint_is_spelled_so.Goals as goal

pub returns : goal.returns
returns c = varint_at-takes
