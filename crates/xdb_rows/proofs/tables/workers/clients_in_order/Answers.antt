use Rattle.std.proofs.Common.{rules}
use Rattle.xdb_rows.proofs.WorkerLaws.{threads-cases}
use Rattle.xdb_rows.specs.Tables.Workers.{clients_in_order}
use Rattle.xdb_rows.proofs.tables.workers.clients_in_order.Goals as goal

pub returns : goal.returns
returns c = threads-cases clients_in_order (search rules)
