use Rattle.xdb_model.proofs.ClientLaws.{tables-next}
use Rattle.xdb_model.proofs.clients.tables_go_on.Goals as goal

pub returns : goal.returns
returns c = tables-next
