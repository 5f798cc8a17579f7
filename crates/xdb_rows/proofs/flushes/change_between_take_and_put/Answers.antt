use Rattle.std.proofs.Common.{rules, refl}
use Rattle.std.specs.FinMap.{gets}
use Rattle.std.specs.Fmt.{digits}
use Rattle.xdb_rows.proofs.MapLaws.{known_entries}
use Rattle.xdb_rows.proofs.flushes.change_between_take_and_put.Goals as goal

pub returns : goal.returns
unfolding digits
returns c = record { script = search rules; right = search (rules, gets, known_entries); holds = search rules; run = search rules; prints = refl }
