-- The first defect of the view is named.
use Rattle.std.proofs.Common.{◌∷◌, [], subst}
use Rattle.xdb_table_r.specs.Cursors.{Walk}
use Rattle.xdb_merge.specs.Steps.{NamesDefect}
use Rattle.xdb_merge.proofs.LoadLaws.{one_defect, passed_defect}
use Rattle.xdb_merge.proofs.source.Source.load.Goals as goal

pub returns-in_err-load-clause-defect : goal.returns-in_err-load-clause-defect
returns-in_err-load-clause-defect g c =
    passed_defect g.F.FileRef.bytes (c.args.self.now.view ∷ []) c.from_residual-in_err-load.result c.in_err-load.field-0.0 c.from_residual-in_err-load.ensures
    (subst (λ (w : Walk g.row.F.Denot). NamesDefect g.F.FileRef.bytes (w.view ∷ []) c.in_err-load.field-0.0) c.self.view_is
    (one_defect g.F.FileRef.bytes c.self.inside.cursor.view c.in_err-load.field-0.0 c.in_err-load.ensures.tells))
