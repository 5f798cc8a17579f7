-- The pairs of the range inside the bounds are those of what both have in common.
use Rattle.std.proofs.Common.{IfErr, take, sym, ap, ◌∙◌, subst}
use Rattle.xdb_laws.specs.Image.{image}
use Rattle.xdb_merge.specs.Tables.{NamesDamage}
use Rattle.xdb_plain.specs.declared.answer.Answer.TheVariants.{Found}
use Rattle.xdb_read.specs.Asked.{common, tables_of}
use Rattle.xdb_read.specs.Fits.{content}
use Rattle.xdb_read.specs.Pairs.{along}
use Rattle.xdb_read.proofs.FaultLaws.{damage_passed}
use Rattle.xdb_read.proofs.KeyLaws.{pairs-common, pairs-apart, none-along}
use Rattle.xdb_read.proofs.answering.found.Goals as goal

pub returns-in_default-clause-right : goal.returns-in_default-clause-right
returns-in_default-clause-right g c = λ told.
    let parts = c.args.parts.now in
    ap Found (c.new-in_default.ensures ∙ c.new.ensures.items)
    ∙ sym (ap (λ ps. Found (take c.args.most (along c.args.way ps))) (pairs-apart parts.bounds c.args.range.now (image (content g.F.FileRef.bytes parts) parts.at) (sym c.in_ok-keys.ensures ∙ c.in_default.is))
    ∙ ap Found (none-along c.args.way c.args.most))

pub returns-in_err-found-clause-damage : goal.returns-in_err-found-clause-damage
returns-in_err-found-clause-damage g c =
    let parts = c.args.parts.now in
    let keys = common parts.bounds c.args.range.now in
    damage_passed g.F.FileRef.bytes (tables_of keys parts.tables) c.from_residual-in_err-found.result c.pairs_along.result c.in_err-found.field-0.0 c.in_err-found.was c.from_residual-in_err-found.ensures
    (subst (λ o. IfErr c.pairs_along.result (NamesDamage g.F.FileRef.bytes (tables_of o parts.tables))) (sym c.in-Some.is ∙ c.in_ok-keys.ensures) c.pairs_along.ensures.damage)

pub returns-clause-right : goal.returns-clause-right
returns-clause-right g c = λ told.
    let parts = c.args.parts.now in
    ap Found (c.in_ok-found.ensures.pairs told
    ∙ ap (λ ps. take c.args.most (along c.args.way ps)) (pairs-common parts.bounds c.args.range.now c.in-Some.keys (image (content g.F.FileRef.bytes parts) parts.at) (sym c.in_ok-keys.ensures ∙ c.in-Some.is)))
