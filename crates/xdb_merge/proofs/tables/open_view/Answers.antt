-- A defect of the file is one of the table.
use Rattle.std.proofs.Common.{◌∷◌, [], IfSome, subst}
use Rattle.xdb_table_r.specs.Opening.{IsNo, opened_at}
use Rattle.xdb_merge.proofs.TableLaws.{damage_opened, passed_damage}
use Rattle.xdb_merge.proofs.tables.open_view.Goals as goal

pub returns-in_err-table-clause-damage : goal.returns-in_err-table-clause-damage
returns-in_err-table-clause-damage g c =
    passed_damage g.F.FileRef.bytes ((c.args.meta.now, c.args.file.now) ∷ []) c.from_residual-in_err-table.result c.in_err-table.field-0.0 c.from_residual-in_err-table.ensures
    (damage_opened g.F.FileRef.bytes (c.args.meta.now, c.args.file.now) c.in_ok-share.field-0 c.in_err-table.field-0.0 c.in_ok-share.ensures.bytes
    (subst (λ n. IfSome (g.F.FileRef.bytes c.in_ok-share.field-0) (λ b. IsNo n c.in_err-table.field-0.0 (opened_at b))) c.backing.ensures.backing c.in_err-table.ensures.tells))
