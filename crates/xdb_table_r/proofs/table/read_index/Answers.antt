use Rattle.std.proofs.Common.{◌∙◌, true, false, sym, ap, arith}
use Rattle.xdb_table_r.specs.Parts.{follow_on}
use Rattle.xdb_table_r.specs.Opening.{index_at}
use Rattle.xdb_table_r.specs.Tables.{listed}
use Rattle.xdb_table_r.proofs.TellLaws.{passed}
use Rattle.xdb_table_r.proofs.OpeningLaws.{told_named, told_no_index, told_bad_index, told_index}
use Rattle.xdb_table_r.proofs.table.read_index.Goals as goal

pub returns-then-part-eq0-clause-tells : goal.returns-then-part-eq0-clause-tells
returns-then-part-eq0-clause-tells g c = told_no_index (g.R.File.FileRef.bytes c.args.file.now) c.args.layout c.if-part-eq0.true (c.requires.none c.if-part-eq0.true)

pub returns-in_err-block-clause-tells : goal.returns-in_err-block-clause-tells
returns-in_err-block-clause-tells g c =
    passed (g.R.File.FileRef.bytes c.args.file.now) c.args.backing listed c.from_residual.result c.in_err-block.field-0.0 (index_at c.args.layout) c.from_residual.ensures
    (told_bad_index (g.R.File.FileRef.bytes c.args.file.now) c.args.backing c.in_err-block.field-0.0 c.args.layout (omega (arith, c.if-part-eq0.false)) c.in_err-block.ensures.tells)

pub returns-then-not-follow_on-clause-tells : goal.returns-then-not-follow_on-clause-tells
returns-then-not-follow_on-clause-tells g c =
    told_named (g.R.File.FileRef.bytes c.args.file.now) c.args.layout.index.at c.args.backing (index_at c.args.layout) (told_index (g.R.File.FileRef.bytes c.args.file.now) c.args.layout c.in_ok-block.block false (omega (arith, c.if-part-eq0.false)) c.in_ok-block.ensures.tells
    (ap (λ n. follow_on 0 n c.in_ok-block.block) (sym c.points_end.ensures) ∙ sym c.follow_on.ensures ∙ c.if-not-follow_on.true))

pub returns-clause-tells : goal.returns-clause-tells
returns-clause-tells g c =
    told_index (g.R.File.FileRef.bytes c.args.file.now) c.args.layout c.in_ok-block.block true (omega (arith, c.if-part-eq0.false)) c.in_ok-block.ensures.tells
    (ap (λ n. follow_on 0 n c.in_ok-block.block) (sym c.points_end.ensures) ∙ sym c.follow_on.ensures ∙ c.if-not-follow_on.false)
