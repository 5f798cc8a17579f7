use Rattle.std.proofs.Common.{rules}
use Rattle.std.specs.FinMap.{gets}
use Rattle.xdb_rows.proofs.MapLaws.{known_entries}
use Rattle.xdb_rows.proofs.tables.answers.scans_told.Goals as goal

pub returns : goal.returns
returns c = search (rules, gets, known_entries)
