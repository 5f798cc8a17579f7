use Rattle.std.proofs.Common.{◌≡◌, ◌∙◌, ◌++◌, ◌∷◌, [], ◌<◌, ◌^◌, true, None, Some, ap, sym, subst, arith}
use Rattle.std.specs.Option.{option_or}
use Rattle.xdb_key.specs.Bounds.{Bounds}
use Rattle.xdb_key.specs.Limits.{IsBound}
use Rattle.xdb_key.specs.Order.{is_below}
use Rattle.xdb_key.specs.declared.op.Kind.TheVariants.{SpanDel}
use Rattle.xdb_block.specs.Kept.{draft}
use Rattle.xdb_block.specs.Rows.{row}
use Rattle.xdb_table_w.specs.declared.seqs.Seqs.{Seqs}
use Rattle.xdb_table_w.specs.Content.{Content, internal, span_row, last_of, lies_behind}
use Rattle.xdb_table_w.specs.Extents.{number}
use Rattle.xdb_table_w.specs.Halves.{IsHalf}
use Rattle.xdb_table_w.proofs.HalfLaws.{span_added}
use Rattle.xdb_table_w.proofs.KeyRows.{span_suits, span_user, span_number}
use Rattle.xdb_table_w.proofs.writer.TableWriter.add_span.Goals as goal

pub invariant_of-self-2 : goal.invariant_of-self-2
invariant_of-self-2 c =
    let w = c.self.inside in
    let s = c.args.s.now in
    let r = span_row s in
    let lo_is = c.in_ok-lo.ensures ∙ c.lo.ensures.lo ∙ ap (λ (b : Bounds). b.lo) c.range.ensures in
    let hi_is = c.in_ok-hi.ensures ∙ c.hi.ensures ∙ ap (λ (b : Bounds). b.hi) c.range-2.ensures in
    let ordered = subst (λ (b : Bounds). is_below b.lo b.hi ≡ true) c.range.ensures c.lo.ensures.ordered in
    let fits = span_suits s c.seq.ensures.small (subst IsBound lo_is c.bytes.ensures.bound) (subst IsBound hi_is c.bytes-2.ensures.bound) ordered in
    let behind = subst (λ (v : Content). lies_behind (last_of None v.spans) r ≡ true) (sym c.self.view_is) c.requires.order in
    let start = c.bytes.ensures.bytes ∙ lo_is in
    let stored = c.deref.ensures.value ∙ c.in_ok-set_internal.ensures ∙ (λ i. internal (start i) (c.seq.ensures.seq i) SpanDel) in
    let value_is = c.bytes-2.ensures.bytes ∙ hi_is in
    let added = c.in_ok-add.ensures.added ∙ (λ i. draft w.spans.interval (w.spans.rows ++ row (stored i) (value_is i) ∷ [])) in
    let lo = c.put_start.ensures ∙ ap (λ k. option_or w.lo (Some k)) (lo_is ∙ sym (span_user s)) in
    let seq = c.seq-2.ensures.seq ∙ sym (span_number s c.seq.ensures.small) in
    let number_is = span_number s c.seq.ensures.small in
    let small : number r < 2 ^ 56 = omega (arith, number_is, c.seq.ensures.small) in
    let done = span_added w.blocks.items w.block w.spans w.first w.last.items w.lo w.hi w.point_seqs w.span_seqs r c.add.new.self c.put_start.new.lo (Some c.in_ok-hi.hi) c.seq-2.result small fits behind c.self.invariant added lo (ap Some hi_is) seq in
    subst (λ (t : Seqs). IsHalf w.blocks.items w.block c.add.new.self w.first w.last.items c.put_start.new.lo (Some c.in_ok-hi.hi) w.point_seqs (Some t)) (sym c.widened.ensures) done
