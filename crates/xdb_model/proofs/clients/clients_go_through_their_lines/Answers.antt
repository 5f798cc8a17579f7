use Rattle.xdb_model.proofs.ClientLaws.{starts, begins, goes-on, ends}
use Rattle.xdb_model.proofs.clients.clients_go_through_their_lines.Goals as goal

pub returns-clause-starts : goal.returns-clause-starts
returns-clause-starts c = starts

pub returns-clause-begins : goal.returns-clause-begins
returns-clause-begins c = begins

pub returns-clause-goes_on : goal.returns-clause-goes_on
returns-clause-goes_on c = goes-on

pub returns-clause-ends : goal.returns-clause-ends
returns-clause-ends c = ends
