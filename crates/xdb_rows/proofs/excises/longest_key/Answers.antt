use Rattle.std.proofs.Common.{rules, refl}
use Rattle.std.specs.Fmt.{digits}
use Rattle.xdb_rows.proofs.MapLaws.{get-found, known_entries}
use Rattle.xdb_rows.proofs.excises.longest_key.Goals as goal

pub returns : goal.returns
unfolding digits
returns c = record { script = search rules; right = search (rules, get-found, known_entries); holds = search rules; run = search rules; prints = refl }
