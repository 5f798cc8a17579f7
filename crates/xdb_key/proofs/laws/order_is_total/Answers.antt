use Rattle.xdb_key.proofs.OrderLaws.{key_total, key_exact}
use Rattle.xdb_key.proofs.laws.order_is_total.Goals as goal

pub returns : goal.returns
returns c = record { total = key_total; exact = key_exact }
