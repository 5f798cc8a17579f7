-- The tables asked are those that the question's case asks.
use Rattle.std.proofs.Common.{IfErr, sym, subst}
use Rattle.xdb_merge.specs.Tables.{NamesDamage}
use Rattle.xdb_read.specs.Asked.{keys_asked, tables_of, tables_asked}
use Rattle.xdb_read.proofs.FaultLaws.{damage_passed}
use Rattle.xdb_read.proofs.answering.answered.Goals as goal

pub returns-in_err-answer-in-Get-clause-damage : goal.returns-in_err-answer-in-Get-clause-damage
returns-in_err-answer-in-Get-clause-damage g c =
    let parts = c.args.parts.now in
    damage_passed g.F.FileRef.bytes (tables_asked parts) c.from_residual.result c.value.result c.in_err-answer-in-Get.field-0.0 c.in_err-answer-in-Get.was c.from_residual.ensures
    (subst (λ q. IfErr c.value.result (NamesDamage g.F.FileRef.bytes (tables_of (keys_asked parts.bounds q) parts.tables))) (sym c.in-Get.is) c.value.ensures.damage)

pub returns-in_err-answer-in-Scan-clause-damage : goal.returns-in_err-answer-in-Scan-clause-damage
returns-in_err-answer-in-Scan-clause-damage g c =
    let parts = c.args.parts.now in
    damage_passed g.F.FileRef.bytes (tables_asked parts) c.from_residual-in_err-answer-in-Scan.result c.found.result c.in_err-answer-in-Scan.field-0.0 c.in_err-answer-in-Scan.was c.from_residual-in_err-answer-in-Scan.ensures
    (subst (λ q. IfErr c.found.result (NamesDamage g.F.FileRef.bytes (tables_of (keys_asked parts.bounds q) parts.tables))) (sym c.in-Scan.is) c.found.ensures.damage)

pub returns-in_err-answer-in-RScan-clause-damage :
    goal.returns-in_err-answer-in-RScan-clause-damage
returns-in_err-answer-in-RScan-clause-damage g c =
    let parts = c.args.parts.now in
    damage_passed g.F.FileRef.bytes (tables_asked parts) c.from_residual-in_err-answer-in-RScan.result c.found-in-RScan.result c.in_err-answer-in-RScan.field-0.0 c.in_err-answer-in-RScan.was c.from_residual-in_err-answer-in-RScan.ensures
    (subst (λ q. IfErr c.found-in-RScan.result (NamesDamage g.F.FileRef.bytes (tables_of (keys_asked parts.bounds q) parts.tables))) (sym c.in-RScan.is) c.found-in-RScan.ensures.damage)

pub returns-in-Move-clause-damage : goal.returns-in-Move-clause-damage
returns-in-Move-clause-damage g c =
    let parts = c.args.parts.now in
    subst (λ q. IfErr c.moved.result (NamesDamage g.F.FileRef.bytes (tables_of (keys_asked parts.bounds q) parts.tables))) (sym c.in-Move.is) c.moved.ensures.damage
