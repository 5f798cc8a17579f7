-- The law `greatest_decides`, by its lemmas.
use Rattle.xdb_rangedel.proofs.NewestLaws.{newest-None, newest-Some, newest-greatest}
use Rattle.xdb_rangedel.proofs.laws.greatest_decides.Goals as goal

pub returns : goal.returns
returns c = record { none = newest-None; some = newest-Some; clear = newest-greatest }
