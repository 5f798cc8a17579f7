use Rattle.std.proofs.Common.{◌≡◌, ◌∙◌, ℕ, true, false, IfSome, Err, sym, ap, subst}
use Rattle.xdb_block.specs.Rows.{nth}
use Rattle.xdb_table_r.specs.declared.part.Part.{Part}
use Rattle.xdb_table_r.specs.Parts.{handle, numbers_in, handle_at}
use Rattle.xdb_table_r.specs.Points.{before, has_more, block_of}
use Rattle.xdb_table_r.proofs.TellLaws.{passed}
use Rattle.xdb_table_r.proofs.PointLaws.{told_bad_block, told_block}
use Rattle.xdb_table_r.proofs.OpeningLaws.{told_named}
use Rattle.xdb_table_r.proofs.points.read_points.Goals as goal

pub returns-in_err-block-clause-tells : goal.returns-in_err-block-clause-tells
returns-in_err-block-clause-tells g c =
    let index = c.args.index.now in
    let i = c.args.i in
    let part_is : c.handle-part.result ≡ handle (nth index i) = c.handle-part.ensures ∙ ap (λ v. numbers_in (handle_at v)) c.value.ensures in
    passed (g.R.File.FileRef.bytes c.args.file.now) c.args.backing _ c.from_residual.result c.in_err-block.field-0.0 (block_of (before index i) (has_more index i) (nth index i)) c.from_residual.ensures
    (told_bad_block (g.R.File.FileRef.bytes c.args.file.now) c.args.backing c.in_err-block.field-0.0 (before index i) (has_more index i) (nth index i) c.handle-part.result part_is c.in_err-block.ensures.tells)

pub returns-then-not-branch-clause-tells : goal.returns-then-not-branch-clause-tells
returns-then-not-branch-clause-tells g c =
    let index = c.args.index.now in
    let i = c.args.i in
    let part_is : c.handle-part.result ≡ handle (nth index i) = c.handle-part.ensures ∙ ap (λ v. numbers_in (handle_at v)) c.value.ensures in
    told_named (g.R.File.FileRef.bytes c.args.file.now) c.handle-part.result.at c.args.backing (block_of (before index i) (has_more index i) (nth index i))
    (subst (λ (n : ℕ). IfSome (g.R.File.FileRef.bytes c.args.file.now) (λ b. block_of (before index i) (has_more index i) (nth index i) b ≡ Err n)) (ap (λ (p : Part). p.at) (sym part_is))
    (told_block (g.R.File.FileRef.bytes c.args.file.now) (before index i) (has_more index i) (nth index i) c.handle-part.result c.in_ok-block.block false part_is c.in_ok-block.ensures.tells (sym c.in_ok-stands.ensures ∙ c.if-not-branch.true)))

pub returns-clause-tells : goal.returns-clause-tells
returns-clause-tells g c =
    let index = c.args.index.now in
    let i = c.args.i in
    let part_is : c.handle-part.result ≡ handle (nth index i) = c.handle-part.ensures ∙ ap (λ v. numbers_in (handle_at v)) c.value.ensures in
    told_block (g.R.File.FileRef.bytes c.args.file.now) (before index i) (has_more index i) (nth index i) c.handle-part.result c.in_ok-block.block true part_is c.in_ok-block.ensures.tells (sym c.in_ok-stands.ensures ∙ c.if-not-branch.false)
