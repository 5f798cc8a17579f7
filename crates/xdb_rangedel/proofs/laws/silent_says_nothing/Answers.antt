-- The law `silent_says_nothing`, by its lemmas.
use Rattle.xdb_rangedel.proofs.NewestLaws.{newest_silent}
use Rattle.xdb_rangedel.proofs.LayerLaws.{newest_silent_left, newest_silent_right}
use Rattle.xdb_rangedel.proofs.laws.silent_says_nothing.Goals as goal

pub returns : goal.returns
returns c = record { nothing = newest_silent; before = newest_silent_left; behind = newest_silent_right }
