use Rattle.std.proofs.Common.{rules}
use Rattle.xdb_rows.proofs.WorkerLaws.{threads-cases}
use Rattle.xdb_rows.specs.Tables.Workers.{await_waits}
use Rattle.xdb_rows.proofs.tables.workers.await_waits.Goals as goal

pub returns : goal.returns
returns c = threads-cases await_waits (search rules)
