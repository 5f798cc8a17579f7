-- The law `order_is_nothing`, by its lemmas.
use Rattle.xdb_rangedel.proofs.NewestLaws.{newest_unordered}
use Rattle.xdb_rangedel.proofs.laws.order_is_nothing.Goals as goal

pub returns : goal.returns
returns c = newest_unordered
