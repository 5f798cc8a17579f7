use Rattle.std.proofs.Common.{rules}
use Rattle.xdb_rows.proofs.WorkerLaws.{come-cases}
use Rattle.xdb_rows.specs.Tables.Workers.{ways}
use Rattle.xdb_rows.proofs.tables.workers.ways.Goals as goal

pub returns : goal.returns
returns c = come-cases ways (search rules)
