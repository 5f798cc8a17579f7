use Rattle.std.proofs.Common.{◌∙◌, ◌+◌, ◌*◌, ap, sym}
use Rattle.std.specs.List.{prefix_len}
use Rattle.xdb_block.specs.Kept.{keys_of}
use Rattle.xdb_block.specs.Rows.{is_before, place_from}
use Rattle.xdb_block.proofs.SeekLaws.{place_of_rows}
use Rattle.xdb_block.proofs.block.Block.seek_ge.Goals as goal

pub returns : goal.returns
returns c =
    let b = c.self.inside in
    let user = c.args.key.now in
    let trailer = c.args.seq * 256 + 255 in
    c.place_from.ensures
    ∙ (λ i. prefix_len (is_before (c.bytes.ensures.bytes i) (c.from.ensures i * 256 + 255)) (keys_of (c.deref-2.ensures.value i) (c.deref.ensures.value i)))
    ∙ sym (place_of_rows user trailer b.keys.items b.bytes.items b.places.items) ∙ ap (place_from user trailer) c.self.view_is
