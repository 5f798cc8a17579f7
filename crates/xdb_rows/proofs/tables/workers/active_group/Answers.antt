use Rattle.std.proofs.Common.{rules}
use Rattle.xdb_rows.proofs.WorkerLaws.{threads-cases}
use Rattle.xdb_rows.specs.Tables.Workers.{active_group}
use Rattle.xdb_rows.proofs.tables.workers.active_group.Goals as goal

pub returns : goal.returns
returns c = threads-cases active_group (search rules)
