use Rattle.std.proofs.Common.{rules}
use Rattle.xdb_rows.proofs.MapLaws.{get-found, known_entries}
use Rattle.xdb_rows.proofs.tables.answers.steps_walked.Goals as goal

pub returns : goal.returns
returns c = search (rules, get-found, known_entries)
