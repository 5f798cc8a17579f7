use Rattle.std.proofs.Common.{rules}
use Rattle.xdb_rows.proofs.WorkerLaws.{threads-cases}
use Rattle.xdb_rows.specs.Tables.Workers.{defined_for_all}
use Rattle.xdb_rows.proofs.tables.workers.defined_for_all.Goals as goal

pub returns : goal.returns
returns c = threads-cases defined_for_all (search rules)
