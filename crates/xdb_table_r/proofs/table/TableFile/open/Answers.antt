use Rattle.std.proofs.Common.{◌∙◌, ◌≤◌, sym, ap, subst}
use Rattle.xdb_table_r.specs.Parts.{follow_on}
use Rattle.xdb_table_r.specs.Opening.{opened_at}
use Rattle.xdb_table_r.specs.Tables.{listed}
use Rattle.xdb_table_r.proofs.TellLaws.{passed}
use Rattle.xdb_table_r.proofs.OpeningLaws.{told_opened_no_footer, told_opened_no_index, told_opened_no_spans, told_opened}
use Rattle.xdb_table_r.proofs.table.TableFile.open.Goals as goal

pub returns-in_err-layout-clause-tells : goal.returns-in_err-layout-clause-tells
returns-in_err-layout-clause-tells g c =
    passed (g.F.FileRef.bytes c.args.file) c.args.backing _ c.from_residual.result c.in_err-layout.field-0.0 opened_at c.from_residual.ensures
    (told_opened_no_footer (g.F.FileRef.bytes c.args.file) c.args.backing c.in_err-layout.field-0.0 c.in_err-layout.ensures.tells)

pub returns-in_err-index-clause-tells : goal.returns-in_err-index-clause-tells
returns-in_err-index-clause-tells g c =
    passed (g.F.FileRef.bytes c.args.file) c.args.backing _ c.from_residual-in_err-index.result c.in_err-index.field-0.0 opened_at c.from_residual-in_err-index.ensures
    (told_opened_no_index (g.F.FileRef.bytes c.args.file) c.args.backing c.in_err-index.field-0.0 c.in_ok-layout.layout c.in_ok-layout.ensures.tells c.in_err-index.ensures.tells)

pub returns-in_err-spans-clause-tells : goal.returns-in_err-spans-clause-tells
returns-in_err-spans-clause-tells g c =
    passed (g.F.FileRef.bytes c.args.file) c.args.backing _ c.from_residual-in_err-spans.result c.in_err-spans.field-0.0 opened_at c.from_residual-in_err-spans.ensures
    (told_opened_no_spans (g.F.FileRef.bytes c.args.file) c.args.backing c.in_err-spans.field-0.0 c.in_ok-layout.layout (listed c.in_ok-index.index) c.in_ok-layout.ensures.tells c.in_ok-index.ensures.tells c.in_err-spans.ensures.tells)

pub invariant_of-result : goal.invariant_of-result
invariant_of-result g c = record {
  within = subst (λ n. n ≤ g.F.FileRef.size c.args.file) (sym c.points_end-end.ensures) c.in_ok-layout.ensures.lies.points;
  tiles = ap (λ n. follow_on 0 n (listed c.in_ok-index.index)) c.points_end-end.ensures ∙ c.in_ok-index.ensures.tiles;
  rows = c.in_ok-index.ensures.rows;
  told = told_opened (g.F.FileRef.bytes c.args.file) c.in_ok-layout.layout (listed c.in_ok-index.index) c.in_ok-spans.spans c.points_end-end.result c.in_ok-layout.ensures.tells c.in_ok-index.ensures.tells c.in_ok-spans.ensures.tells c.points_end-end.ensures;
}

pub returns-clause-tells : goal.returns-clause-tells
returns-clause-tells g c = told_opened (g.F.FileRef.bytes c.args.file) c.in_ok-layout.layout (listed c.in_ok-index.index) c.in_ok-spans.spans c.points_end-end.result c.in_ok-layout.ensures.tells c.in_ok-index.ensures.tells c.in_ok-spans.ensures.tells c.points_end-end.ensures

pub returns-clause-open : goal.returns-clause-open
returns-clause-open g c = invariant_of-result g c
