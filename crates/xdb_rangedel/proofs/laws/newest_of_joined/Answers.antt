-- The law `newest_of_joined`, by its lemmas.
use Rattle.xdb_rangedel.proofs.NewestLaws.{newest-append, newest_replaced}
use Rattle.xdb_rangedel.proofs.laws.newest_of_joined.Goals as goal

pub returns : goal.returns
returns c = record { joined = newest-append; replaced = newest_replaced }
