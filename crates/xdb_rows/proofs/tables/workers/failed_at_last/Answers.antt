use Rattle.std.proofs.Common.{rules}
use Rattle.xdb_rows.proofs.WorkerLaws.{threads-cases}
use Rattle.xdb_rows.specs.Tables.Workers.{failed_at_last}
use Rattle.xdb_rows.proofs.tables.workers.failed_at_last.Goals as goal

pub returns : goal.returns
returns c = threads-cases failed_at_last (search rules)
