use Rattle.std.proofs.Common.{rules}
use Rattle.xdb_rows.proofs.WorkerLaws.{threads-cases}
use Rattle.xdb_rows.specs.Tables.Workers.{dead_left}
use Rattle.xdb_rows.proofs.tables.workers.dead_left.Goals as goal

pub returns : goal.returns
returns c = threads-cases dead_left (search rules)
