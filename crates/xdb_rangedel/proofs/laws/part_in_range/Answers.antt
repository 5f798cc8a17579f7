-- The law `part_in_range`, by its lemmas.
use Rattle.xdb_rangedel.proofs.ViewLaws.{newest-restricted, drawn-restricted}
use Rattle.xdb_rangedel.proofs.laws.part_in_range.Goals as goal

pub returns : goal.returns
returns c = record { says = newest-restricted; drawn = drawn-restricted }
