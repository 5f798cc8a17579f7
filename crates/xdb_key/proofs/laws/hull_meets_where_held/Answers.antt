use Rattle.xdb_key.proofs.OrderLaws.{meets-key_hull, meets-symmetric}
use Rattle.xdb_key.proofs.laws.hull_meets_where_held.Goals as goal

pub returns : goal.returns
returns c = record { hull = meets-key_hull; symmetric = meets-symmetric }
