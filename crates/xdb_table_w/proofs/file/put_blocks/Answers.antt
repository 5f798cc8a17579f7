use Rattle.std.proofs.Common.{◌≡◌, ◌∙◌, ◌+◌, ◌++◌, ◌∷◌, [], List, ap, sym, subst, take}
use Rattle.std.proofs.lemmas.List.{take_more}
use Rattle.xdb_block.specs.declared.kind.BlockKind.TheVariants.{Point}
use Rattle.xdb_block.specs.Kept.{Draft}
use Rattle.xdb_block.specs.Rows.{AreRows}
use Rattle.xdb_table_w.proofs.FileLaws.{Put, put_more}
use Rattle.xdb_table_w.proofs.file.put_blocks.Goals as goal

pub loop-block-preserved : goal.loop-block-preserved
loop-block-preserved c =
    let blocks = c.args.blocks.now in
    let n = c.loop-block.block-index in
    let d = c.block-item.result in
    let one : take (n + 1) blocks ≡ take n blocks ++ d ∷ [] = take_more blocks n d c.loop-block-test.true ∙ ap (λ (x : Draft). take n blocks ++ x ∷ []) (sym c.block-item.is) in
    let rows : AreRows Point d.rows = subst (λ (x : Draft). AreRows Point x.rows) (sym c.block-item.is) (c.requires.blocks n d c.loop-block-test.true).1 in
    let e = c.in_ok-put_points.ensures in
    let next = put_more (take n blocks) d c.loop-block.out.items c.put_points.new.out.items c.loop-block.index c.put_points.new.index c.loop-block.invariant (e.block Point rows) e.put e.index in
    subst (λ (xs : List Draft). Put xs c.put_points.new.out.items c.put_points.new.index) (sym one) next
