use Rattle.std.proofs.Common.{rules, tests, sym, ◌∙◌}
use Rattle.std.proofs.lemmas.Iterator.{YieldsList-from_slice}
use Rattle.std.proofs.lemmas.Iterator.Search.{all_from_yields_List}
use Rattle.xdb_script.proofs.Named.{clean_some}
use Rattle.xdb_script.specs.Reading.{is_visible}
use Rattle.xdb_script.proofs.line.is_clean.Goals as goal

pub returns : goal.returns
returns c =
    all_from_yields_List is_visible _ _ c.all.result c.all.ensures.ran (YieldsList-from_slice c.args.word.now cc) (λ x b q k. search (rules, tests))
    ∙ clean_some c.args.word.now (sym c.is_empty.ensures ∙ c.if-is_empty.false)
