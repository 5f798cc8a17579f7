-- What is left to answer of `cursor`.
use Rattle.std.proofs.Common.{◌≡◌, [], sym, ap, ◌∙◌}
use Rattle.xdb_merge.specs.Tables.{tables_in}
use Rattle.xdb_plain.specs.declared.question.Place.TheVariants.{Before}
use Rattle.xdb_read.proofs.CursorLaws.{begins-made}
use Rattle.xdb_read.proofs.FaultLaws.{counted_one}
use Rattle.xdb_read.proofs.pairs.cursor.Goals as goal

pub returns-clause-counted : goal.returns-clause-counted
returns-clause-counted g c = counted_one c.args.dev.now c.open_views_in.new.dev c.with_place.result c.open_views_in.ensures.counted

pub returns-clause-alone : goal.returns-clause-alone
returns-clause-alone g c = λ none. c.open_views_in.ensures.alone (ap (tables_in c.args.keys) c.list.ensures ∙ none)

pub returns-clause-cursor : goal.returns-clause-cursor
returns-clause-cursor g c =
    begins-made g.F.FileRef.bytes c.args.parts.now c.in_ok-pairs.pairs c.with_place.result c.in_ok-views.views.items c.list.result.now c.args.keys Before c.args.place
    c.list.ensures c.in_ok-views.ensures.views c.in_ok-pairs.ensures c.with_place.ensures
