use Rattle.std.proofs.Common.{rules}
use Rattle.xdb_rows.proofs.WorkerLaws.{come-cases}
use Rattle.xdb_rows.specs.Tables.Workers.{under_way_wrong}
use Rattle.xdb_rows.proofs.tables.workers.under_way_wrong.Goals as goal

pub returns : goal.returns
returns c = come-cases under_way_wrong (search rules)
