-- The law `commits_keep_order`, by its lemmas.
use Rattle.xdb_laws.proofs.PlaceLaws.{commit-ordered}
use Rattle.xdb_laws.proofs.order.commits_keep_order.Goals as goal

pub returns : goal.returns
returns c = commit-ordered
