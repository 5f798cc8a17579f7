-- The value is that of the first pair of the key's hull.
use Rattle.std.proofs.Common.{Some, None, IfErr, sym, ap, ◌∙◌, subst}
use Rattle.xdb_key.specs.Bounds.{key_hull}
use Rattle.xdb_laws.specs.Image.{image}
use Rattle.xdb_merge.specs.Tables.{NamesDamage}
use Rattle.xdb_plain.specs.Answers.{value_or_absent}
use Rattle.xdb_read.specs.Asked.{common, tables_of}
use Rattle.xdb_read.specs.Fits.{content}
use Rattle.xdb_read.proofs.FaultLaws.{damage_passed}
use Rattle.xdb_read.proofs.KeyLaws.{value-first, value-apart}
use Rattle.xdb_read.proofs.answering.value.Goals as goal

pub returns-in_default-clause-right : goal.returns-in_default-clause-right
returns-in_default-clause-right g c = λ told.
    let parts = c.args.parts.now in
    sym (ap value_or_absent (value-apart parts.bounds c.args.key.now (image (content g.F.FileRef.bytes parts) parts.at) (sym c.in_ok-keys.ensures ∙ c.in_default.is)))

pub returns-in_err-entry-clause-damage : goal.returns-in_err-entry-clause-damage
returns-in_err-entry-clause-damage g c =
    let parts = c.args.parts.now in
    let keys = common parts.bounds (key_hull c.args.key.now) in
    damage_passed g.F.FileRef.bytes (tables_of keys parts.tables) c.from_residual-in_err-entry.result c.step_at.result c.in_err-entry.field-0.0 c.in_err-entry.was c.from_residual-in_err-entry.ensures
    (subst (λ o. IfErr c.step_at.result (NamesDamage g.F.FileRef.bytes (tables_of o parts.tables))) (sym c.in-Some.is ∙ c.in_ok-keys.ensures) c.step_at.ensures.damage)

pub returns-clause-right : goal.returns-clause-right
returns-clause-right g c = λ told.
    let parts = c.args.parts.now in
    c.in_ok-value_or_absent.ensures
    ∙ ap value_or_absent (value-first parts.bounds c.in-Some.keys c.args.key.now (image (content g.F.FileRef.bytes parts) parts.at) c.in_ok-entry.entry c.in_ok-entry._place (sym c.in_ok-keys.ensures ∙ c.in-Some.is) (c.in_ok-entry.ensures.lands told))
