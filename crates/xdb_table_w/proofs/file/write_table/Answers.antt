use Rattle.std.proofs.Common.{◌<◌, ◌^◌, List, ℕ, sym, subst, length, arith}
use Rattle.xdb_block.specs.declared.kind.BlockKind.TheVariants.{Index}
use Rattle.xdb_block.specs.Kept.{Draft}
use Rattle.xdb_block.specs.Rows.{AreRows}
use Rattle.xdb_block.specs.Spelling.{IsBlock}
use Rattle.xdb_table_w.specs.Files.{parts, index}
use Rattle.xdb_table_w.specs.Halves.{rows_in}
use Rattle.xdb_table_w.proofs.FollowLaws.{index_follow, length-index}
use Rattle.xdb_table_w.proofs.ReadyLaws.{blocks_some}
use Rattle.std.proofs.lemmas.List.{length-map}
use Rattle.xdb_table_w.proofs.file.write_table.Goals as goal

pub returns-clause-index : goal.returns-clause-index
returns-clause-index c = λ some.
    let blocks = c.args.blocks.now in
    let is = c.in_ok-index.ensures.index in
    let small : length (parts 16 (rows_in blocks)) < 2 ^ 63 = subst (λ (xs : List ℕ). length xs < 2 ^ 63) c.in_ok-index.ensures.put (omega arith) in
    let count = length-index 16 0 (rows_in blocks) in
    let size = length-map blocks (λ (d : Draft). d.rows) in
    let rows : AreRows Index (index 16 (rows_in blocks)) = (omega arith, index_follow 16 (rows_in blocks) c.requires.follow (blocks_some blocks c.requires.blocks) small) in
    subst (λ (d : Draft). IsBlock 16 Index d.rows) is (c.in_ok-index_part.ensures.block Index (subst (λ (d : Draft). AreRows Index d.rows) (sym is) rows))
