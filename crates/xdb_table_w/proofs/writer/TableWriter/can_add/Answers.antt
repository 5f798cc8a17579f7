use Rattle.std.proofs.Common.{◌∙◌, None, ap, sym}
use Rattle.xdb_block.specs.Rows.{precedes}
use Rattle.xdb_table_w.specs.Content.{Content, internal, point_row, last_of, goes_behind}
use Rattle.xdb_table_w.specs.Halves.{points_in}
use Rattle.xdb_table_w.proofs.HalfLaws.{after_key, behind_is}
use Rattle.xdb_table_w.proofs.writer.TableWriter.can_add.Goals as goal

pub returns-in-Some : goal.returns-in-Some
returns-in-Some c =
    let w = c.self.inside in
    let r = point_row c.args.e.now in
    let key_is = c.bytes.ensures.bytes ∙ c.key.ensures in
    c.is_behind.ensures ∙ (λ i. precedes (c.deref.ensures.value i) (internal (key_is i) (c.seq.ensures.seq i) (c.kind.ensures i)))
    ∙ ap (λ o. after_key o w.last.items r) (sym c.in-Some.is) ∙ behind_is (points_in w.blocks.items w.block) w.first w.last.items w.point_seqs r c.self.invariant.points
    ∙ ap (λ (v : Content). goes_behind (last_of None v.points) r) c.self.view_is
