-- Where no words were printed, `none` is.
use Rattle.std.proofs.Common.{rules, ap, map}
use Rattle.xdb_plain.specs.Printed.{snap_word}
use Rattle.xdb_text.proofs.Spaced.{none-printed}
use Rattle.xdb_text.proofs.tables.push_snaps.Goals as goal

pub returns-clause-printed : goal.returns-clause-printed
returns-clause-printed c = none-printed _ _ _ c.args.out.now.items _ _ c.len-start.result (search rules) (ap (λ xs. map snap_word xs) c.list.ensures) c.in_ok-push_each_snap.ensures.printed c.push_none.ensures.printed
