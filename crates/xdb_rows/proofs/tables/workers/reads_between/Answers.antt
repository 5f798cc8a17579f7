use Rattle.std.proofs.Common.{rules}
use Rattle.std.specs.FinMap.{gets}
use Rattle.xdb_rows.proofs.WorkerLaws.{threads-cases}
use Rattle.xdb_rows.specs.Tables.Workers.{reads_between}
use Rattle.xdb_rows.proofs.tables.workers.reads_between.Goals as goal

pub returns : goal.returns
returns c = threads-cases reads_between (search (rules, gets))
