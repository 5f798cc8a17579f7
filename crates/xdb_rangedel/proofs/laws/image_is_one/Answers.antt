-- The law `image_is_one`, by its lemmas.
use Rattle.xdb_rangedel.proofs.NewestLaws.{image_is_one}
use Rattle.xdb_rangedel.proofs.laws.image_is_one.Goals as goal

pub returns : goal.returns
returns c = image_is_one
