use Rattle.xdb_model.proofs.ClientLaws.{blocks-push}
use Rattle.xdb_model.proofs.clients.client_blocks_go_on.Goals as goal

pub returns : goal.returns
returns c = blocks-push
