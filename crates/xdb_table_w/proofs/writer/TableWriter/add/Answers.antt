use Rattle.std.proofs.Common.{◌≡◌, ◌∙◌, ◌++◌, ◌∷◌, [], ◌<◌, ◌^◌, true, leb, None, Some, ap, sym, subst, length, arith}
use Rattle.std.specs.Option.{option_or}
use Rattle.xdb_key.specs.Limits.{IsKey}
use Rattle.xdb_block.specs.Kept.{draft}
use Rattle.xdb_block.specs.Rows.{row}
use Rattle.xdb_block.specs.Spelling.{entries}
use Rattle.xdb_table_w.specs.declared.seqs.Seqs.{Seqs}
use Rattle.xdb_table_w.specs.Content.{Content, internal, point_row, last_of, goes_behind}
use Rattle.xdb_table_w.specs.Extents.{number}
use Rattle.xdb_table_w.specs.Halves.{IsHalf}
use Rattle.xdb_table_w.proofs.HalfLaws.{point_added, moved}
use Rattle.xdb_table_w.proofs.KeyRows.{point_suits, point_user, point_number}
use Rattle.xdb_table_w.proofs.writer.TableWriter.add.Goals as goal

pub invariant_of-self-2 : goal.invariant_of-self-2
invariant_of-self-2 c =
    let w = c.self.inside in
    let e = c.args.e.now in
    let r = point_row e in
    let key_is = c.bytes.ensures.bytes ∙ c.key-2.ensures in
    let fits = point_suits e c.seq.ensures.point (subst IsKey c.key-2.ensures c.bytes.ensures.key) in
    let behind = subst (λ (v : Content). goes_behind (last_of None v.points) r ≡ true) (sym c.self.view_is) c.requires.order in
    let internal_is = c.in_ok-set_internal.ensures ∙ (λ i. internal (key_is i) (c.seq.ensures.seq i) (c.kind.ensures i)) in
    let stored = c.deref.ensures.value ∙ internal_is in
    let value_is = c.bytes-2.ensures ∙ c.value.ensures in
    let added = c.in_ok-add.ensures.added ∙ (λ i. draft w.block.interval (w.block.rows ++ row (stored i) (value_is i) ∷ [])) in
    let blocks = c.end_block.ensures.blocks ∙ ap (λ bs. moved (leb 4096 (length (entries c.add.new.self.interval c.add.new.self.rows))) bs c.add.new.self) c.in_ok-try_reserve.ensures.items in
    let first = c.put_first.ensures ∙ c.in_ok-first.ensures ∙ ap (λ k. option_or w.first (Some k)) (c.key.ensures ∙ sym (point_user e)) in
    let last = ap (λ v. v.items) c.swap.ensures.x_after ∙ internal_is in
    let seq = c.seq-2.ensures.seq ∙ sym (point_number e c.seq.ensures.small) in
    let number_is = point_number e c.seq.ensures.small in
    let small : number r < 2 ^ 56 = omega (arith, number_is, c.seq.ensures.small) in
    let done = (point_added w.blocks.items w.block w.spans w.first w.last.items w.lo w.hi w.point_seqs w.span_seqs r c.end_block.new.blocks.items c.add.new.self c.end_block.new.block c.put_first.new.first c.swap.new.x.items c.seq-2.result small fits behind c.self.invariant added blocks c.end_block.ensures.block first last seq).half in
    subst (λ (s : Seqs). IsHalf c.end_block.new.blocks.items c.end_block.new.block w.spans c.put_first.new.first c.swap.new.x.items w.lo w.hi (Some s) w.span_seqs) (sym c.widened.ensures) done
