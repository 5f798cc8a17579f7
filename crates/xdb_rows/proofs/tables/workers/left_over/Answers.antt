use Rattle.std.proofs.Common.{rules}
use Rattle.xdb_rows.proofs.WorkerLaws.{threads-cases}
use Rattle.xdb_rows.specs.Tables.Workers.{left_over}
use Rattle.xdb_rows.proofs.tables.workers.left_over.Goals as goal

pub returns : goal.returns
returns c = threads-cases left_over (search rules)
