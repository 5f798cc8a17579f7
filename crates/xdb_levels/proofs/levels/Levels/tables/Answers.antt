-- The tables of a level stand at its place.
use Rattle.std.proofs.Common.{◌≡◌, ◌<◌, [], length, get_or, sym, ap, ◌∙◌, arith}
use Rattle.std.proofs.lemmas.List.{get_or_default}
use Rattle.xdb_edit.specs.Versions.{tables_of}
use Rattle.xdb_levels.proofs.LevelLaws.{tables_of-get_or}
use Rattle.xdb_levels.proofs.levels.Levels.tables.Goals as goal

pub returns-clause-tables : goal.returns-clause-tables
returns-clause-tables g c =
    let levels = c.self.inside.levels in
    let level = c.args.level in
    let count = c.self.invariant.count in
    let l : level < length levels = omega arith in
    let here : c.list.result.now ≡ get_or levels level c.index-self-level.result = cc in
    here ∙ get_or_default levels level c.index-self-level.result [] l ∙ sym (tables_of-get_or levels level) ∙ ap (λ v. tables_of v level) c.self.view_is
