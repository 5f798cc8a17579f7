use Rattle.std.proofs.Common.{arith}
use Rattle.xdb_table_r.specs.Opening.{spans_at}
use Rattle.xdb_table_r.proofs.TellLaws.{passed}
use Rattle.xdb_table_r.proofs.OpeningLaws.{told_no_spans, told_bad_spans, told_spans}
use Rattle.xdb_table_r.proofs.spans.read_spans.Goals as goal

pub returns-then-part-eq0-clause-tells : goal.returns-then-part-eq0-clause-tells
returns-then-part-eq0-clause-tells g c = told_no_spans (g.R.File.FileRef.bytes c.args.file.now) c.args.part c.in_ok-none.none c.if-part-eq0.true c.in_ok-none.ensures

pub returns-in_err-block-clause-tells : goal.returns-in_err-block-clause-tells
returns-in_err-block-clause-tells g c =
    passed (g.R.File.FileRef.bytes c.args.file.now) c.args.backing (λ spans. spans) c.from_residual-in_err-block.result c.in_err-block.field-0.0 (spans_at c.args.part) c.from_residual-in_err-block.ensures
    (told_bad_spans (g.R.File.FileRef.bytes c.args.file.now) c.args.backing c.in_err-block.field-0.0 c.args.part (omega (arith, c.if-part-eq0.false)) c.in_err-block.ensures.tells)

pub returns-clause-tells : goal.returns-clause-tells
returns-clause-tells g c =
    told_spans (g.R.File.FileRef.bytes c.args.file.now) c.args.part c.in_ok-block.block c.in_ok-spans.spans (omega (arith, c.if-part-eq0.false)) c.in_ok-block.ensures.tells c.in_ok-spans.ensures
