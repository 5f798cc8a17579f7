-- The law `seals_keep_order`, by its lemmas.
use Rattle.xdb_laws.proofs.PlaceLaws.{seal-ordered, seal-whole}
use Rattle.xdb_laws.proofs.order.seals_keep_order.Goals as goal

pub returns : goal.returns
returns c = record { order = seal-ordered; same = seal-whole }
