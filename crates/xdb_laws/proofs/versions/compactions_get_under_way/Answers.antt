-- The law `compactions_get_under_way`, by its lemmas.
use Rattle.xdb_laws.proofs.UnderWayLaws.{way-taken}
use Rattle.xdb_laws.proofs.versions.compactions_get_under_way.Goals as goal

pub returns : goal.returns
returns c = λ content groups levels level inputs given floor. way-taken content groups levels level inputs given floor
