use Rattle.std.proofs.Common.{◌∙◌, None, Some, ap, sym}
use Rattle.xdb_block.specs.Rows.{row}
use Rattle.xdb_table_w.specs.Content.{Content, span_row, last_of, lies_behind}
use Rattle.xdb_table_w.proofs.HalfLaws.{after_span, span_behind_is}
use Rattle.xdb_table_w.proofs.writer.TableWriter.can_add_span.Goals as goal

pub returns-in-Some : goal.returns-in-Some
returns-in-Some c =
    let w = c.self.inside in
    let r = span_row c.args.s.now in
    c.is_span_behind.ensures ∙ ap (λ h. lies_behind (Some (row c.last_key.result.now h)) r) c.bytes.ensures.bytes
    ∙ ap (λ o. after_span o c.last_key.result.now r) (sym c.in-Some.is) ∙ span_behind_is w.spans.rows w.lo w.hi w.span_seqs c.last_key.result.now r c.last_key.ensures c.self.invariant.ranges
    ∙ ap (λ (v : Content). lies_behind (last_of None v.spans) r) c.self.view_is
