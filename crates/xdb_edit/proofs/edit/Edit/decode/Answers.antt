-- What is read is the edit that is spelled, by the two laws of edits.
use Rattle.std.proofs.Common.{◌∙◌, subst, ap, arith}
use Rattle.xdb_edit.specs.Reading.{Gives, edit_at}
use Rattle.xdb_edit.proofs.EditLaws.{edit_found, edit_again}
use Rattle.xdb_edit.proofs.edit.Edit.decode.Goals as goal

pub returns-clause-found : goal.returns-clause-found
returns-clause-found c = edit_found c.args.bytes.now c.read_edit.result (λ i. omega (arith, c.type_inv.bytes i)) c.read_edit.ensures

pub returns-clause-only : goal.returns-clause-only
returns-clause-only c = λ edit is e. subst (λ f. Gives (λ x. x) c.read_edit.result f) (ap edit_at e ∙ edit_again edit is) c.read_edit.ensures
