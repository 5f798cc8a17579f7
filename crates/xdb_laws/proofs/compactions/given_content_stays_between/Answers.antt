-- The law `given_content_stays_between`, by its lemmas.
use Rattle.xdb_laws.proofs.CompactLaws.{stays-between}
use Rattle.xdb_laws.proofs.compactions.given_content_stays_between.Goals as goal

pub returns : goal.returns
returns c = stays-between
