-- The law `image_is_what_is_said`, by its lemmas.
use Rattle.xdb_laws.proofs.ImageLaws.{image-is, alike-inside}
use Rattle.xdb_laws.proofs.images.image_is_what_is_said.Goals as goal

pub returns : goal.returns
returns c = record { image = image-is; inside = alike-inside }
