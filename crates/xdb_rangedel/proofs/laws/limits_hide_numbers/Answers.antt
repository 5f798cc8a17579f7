-- The law `limits_hide_numbers`, by its lemmas.
use Rattle.xdb_rangedel.proofs.NewestLaws.{newest_raised, newest_unseen}
use Rattle.xdb_rangedel.proofs.laws.limits_hide_numbers.Goals as goal

pub returns : goal.returns
returns c = record { raised = newest_raised; hidden = newest_unseen }
