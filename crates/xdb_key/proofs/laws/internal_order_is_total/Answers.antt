use Rattle.xdb_key.proofs.InOrderLaws.{internal_total, before_trans, before_keys, tied}
use Rattle.xdb_key.proofs.laws.internal_order_is_total.Goals as goal

pub returns : goal.returns
returns c = record { total = internal_total; chain = before_trans; keys = before_keys; tied = tied }
