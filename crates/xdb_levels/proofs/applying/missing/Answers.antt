-- A removed table is named just where it stands.
use Rattle.std.proofs.Common.{get_or, sym, ap, ◌∙◌}
use Rattle.std.proofs.lemmas.List.{get_or_default}
use Rattle.xdb_levels.specs.Names.{is_named}
use Rattle.xdb_levels.proofs.NameLaws.{named_stands}
use Rattle.xdb_levels.proofs.WalkLaws.{missing_there, missing_found}
use Rattle.xdb_levels.proofs.applying.missing.Goals as goal

pub returns-then-not-has : goal.returns-then-not-has
returns-then-not-has c =
    let rs = c.args.removed.now in
    let i = c.loop-level.level-index in
    let r = get_or rs i (0, 0) in
    let known = c.has.ensures ∙ c.sorted-there.ensures r.0 r.1 ∙ ap (λ names. is_named names r.0 r.1) c.in_ok-names_of.ensures ∙ named_stands c.args.levels.now r.0 r.1 in
    missing_found c.args.levels.now rs i r c.loop-level-test.true (get_or_default rs i (0, 0) r c.loop-level-test.true) c.loop-level.invariant (sym known ∙ c.if-not-has.true)

pub loop-level-preserved : goal.loop-level-preserved
loop-level-preserved c =
    let rs = c.args.removed.now in
    let i = c.loop-level.level-index in
    let r = get_or rs i (0, 0) in
    let known = c.has.ensures ∙ c.sorted-there.ensures r.0 r.1 ∙ ap (λ names. is_named names r.0 r.1) c.in_ok-names_of.ensures ∙ named_stands c.args.levels.now r.0 r.1 in
    missing_there c.args.levels.now rs i r c.loop-level-test.true (get_or_default rs i (0, 0) r c.loop-level-test.true) c.loop-level.invariant (sym known ∙ c.if-not-has.false)
