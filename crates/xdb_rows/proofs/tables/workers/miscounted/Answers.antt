use Rattle.std.proofs.Common.{rules}
use Rattle.xdb_rows.proofs.WorkerLaws.{come-cases}
use Rattle.xdb_rows.specs.Tables.Workers.{miscounted}
use Rattle.xdb_rows.proofs.tables.workers.miscounted.Goals as goal

pub returns : goal.returns
returns c = come-cases miscounted (search rules)
