use Rattle.std.proofs.Common.{◌≡◌, ◌∙◌, ◌+◌, ◌++◌, ap, sym, arith, length, true, slice_range, drop}
use Rattle.std.proofs.lemmas.Bool.{eq-eqb, ne_eqb}
use Rattle.xdb_block.specs.Kept.{row_of}
use Rattle.xdb_block.specs.Spelling.{left_out}
use Rattle.xdb_block.proofs.RowLaws.{put_row, made, place}
use Rattle.xdb_block.proofs.row.put_key.Goals as goal

pub returns-then-left_out-lengths-clause-answers :
    goal.returns-then-left_out-lengths-clause-answers
returns-then-left_out-lengths-clause-answers c =
    let n = c.in_ok-lengths.lengths in
    let keys = c.args.keys.now.items in
    let new = c.extend_from_slice.new.self.items in
    let from = c.key_range-from.result.0 in
    let to = c.key_range-from.result.1 in
    let bytes = c.args.entries.now in
    let lies = c.key_range-from.ensures.lies (length keys) (length bytes) c.requires.lies in
    let row = put_row c.args.at c.args.restart keys new bytes _ _ from to n.shared n.unshared n.value n.text lies.0 lies.1 (c.key_range-from.ensures.seen keys bytes)
    (omega arith) c.in_ok-lengths.ensures.within.1 (omega arith) c.in_ok-lengths.ensures.answers
    (c.in_ok-extend_from_slice.ensures.items ∙ ap (λ x. x ++ slice_range bytes n.text (n.text + n.unshared)) c.in_ok-extend_from_within.ensures.items) in
    let len : c.len-key.result ≡ length keys = omega arith in
    let out : c.left_out.result ≡ left_out c.args.restart (slice_range new from to) (slice_range new (length keys) (length new)) =
    c.left_out.ensures ∙ (λ i. left_out c.args.restart (slice_range (c.deref.ensures.value i) from to) (slice_range (c.deref-2.ensures.value i) (len i) (length (c.deref-2.ensures.value i)))) in
    let other = ne_eqb n.shared _ (λ e. c.if-left_out-lengths.true (out ∙ sym e)) in
    row ∙ ap (λ b. made c.args.at b (row_of new bytes (place (length keys) (length new) (n.text + n.unshared) (n.text + n.unshared + n.value))) (drop (n.text + n.unshared + n.value) bytes)) other

pub returns-clause-answers : goal.returns-clause-answers
returns-clause-answers c =
    let n = c.in_ok-lengths.lengths in
    let keys = c.args.keys.now.items in
    let new = c.extend_from_slice.new.self.items in
    let from = c.key_range-from.result.0 in
    let to = c.key_range-from.result.1 in
    let bytes = c.args.entries.now in
    let lies = c.key_range-from.ensures.lies (length keys) (length bytes) c.requires.lies in
    let row = put_row c.args.at c.args.restart keys new bytes _ _ from to n.shared n.unshared n.value n.text lies.0 lies.1 (c.key_range-from.ensures.seen keys bytes)
    (omega arith) c.in_ok-lengths.ensures.within.1 (omega arith) c.in_ok-lengths.ensures.answers
    (c.in_ok-extend_from_slice.ensures.items ∙ ap (λ x. x ++ slice_range bytes n.text (n.text + n.unshared)) c.in_ok-extend_from_within.ensures.items) in
    let len : c.len-key.result ≡ length keys = omega arith in
    let len_new : c.len.result ≡ length new = omega arith in
    let out : c.left_out.result ≡ left_out c.args.restart (slice_range new from to) (slice_range new (length keys) (length new)) =
    c.left_out.ensures ∙ (λ i. left_out c.args.restart (slice_range (c.deref.ensures.value i) from to) (slice_range (c.deref-2.ensures.value i) (len i) (length (c.deref-2.ensures.value i)))) in
    let same = eq-eqb n.shared _ (sym c.if-left_out-lengths.false ∙ out) in
    row ∙ ap (λ b. made c.args.at b (row_of new bytes (place (length keys) (length new) (n.text + n.unshared) (n.text + n.unshared + n.value))) (drop (n.text + n.unshared + n.value) bytes)) same
    ∙ (λ i. made c.args.at true (row_of new bytes (place (sym len i) (sym len_new i) (n.text + n.unshared) (n.text + n.unshared + n.value))) (drop (n.text + n.unshared + n.value) bytes))
