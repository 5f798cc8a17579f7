-- The law `taken_content_lies_between`, by its lemmas.
use Rattle.xdb_laws.proofs.CompactLaws.{taken-between}
use Rattle.xdb_laws.proofs.compactions.taken_content_lies_between.Goals as goal

pub returns : goal.returns
returns c = taken-between
