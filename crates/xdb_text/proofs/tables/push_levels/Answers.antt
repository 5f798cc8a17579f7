-- Where no words were printed, `none` is.
use Rattle.std.proofs.Common.{rules, ap}
use Rattle.xdb_plain.specs.Printed.{levels_words}
use Rattle.xdb_text.proofs.Spaced.{none-printed}
use Rattle.xdb_text.proofs.tables.push_levels.Goals as goal

pub returns-clause-printed : goal.returns-clause-printed
returns-clause-printed c = none-printed _ _ _ c.args.out.now.items _ _ c.len-start.result (search rules) (ap (levels_words) c.list.ensures) c.in_ok-push_full_levels.ensures.printed c.push_none.ensures.printed
