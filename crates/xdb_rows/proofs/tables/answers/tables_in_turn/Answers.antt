use Rattle.std.proofs.Common.{rules}
use Rattle.xdb_rows.proofs.MapLaws.{known_entries}
use Rattle.xdb_rows.proofs.tables.answers.tables_in_turn.Goals as goal

pub returns : goal.returns
returns c = search (rules, known_entries)
