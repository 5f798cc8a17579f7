use Rattle.std.proofs.Common.{rules}
use Rattle.xdb_rows.proofs.WorkerLaws.{threads-cases}
use Rattle.xdb_rows.specs.Tables.Workers.{due_replies}
use Rattle.xdb_rows.proofs.tables.workers.due_replies.Goals as goal

pub returns : goal.returns
returns c = threads-cases due_replies (search rules)
