use Rattle.std.proofs.Common.{rules}
use Rattle.std.specs.FinMap.{gets}
use Rattle.xdb_rows.proofs.tables.holds.answers_taken.Goals as goal

pub returns : goal.returns
returns c = search (rules, gets)
