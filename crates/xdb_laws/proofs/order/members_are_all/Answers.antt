-- The law `members_are_all`, by its lemmas.
use Rattle.xdb_laws.proofs.OrderLaws.{left-below, left-filter, ordered-same}
use Rattle.xdb_laws.proofs.PlaceLaws.{image-same}
use Rattle.xdb_laws.proofs.order.members_are_all.Goals as goal

pub returns : goal.returns
returns c = record { left = left-below; filter = left-filter; same = ordered-same; image = image-same }
