use Rattle.std.proofs.Common.{◌∙◌, ◌++◌, [], take, sym, ap, arith, append_assoc}
use Rattle.std.specs.List.{cons_option}
use Rattle.xdb_block.specs.declared.kind.BlockKind.TheVariants.{Point}
use Rattle.xdb_block.specs.Rows.{row, nth, suits}
use Rattle.xdb_table_r.specs.Views.{range_of, point_in, points_in}
use Rattle.xdb_table_r.proofs.RowLaws.{nth_suits}
use Rattle.xdb_table_r.proofs.SeenLaws.{points_more}
use Rattle.xdb_table_r.proofs.points.push_points.Goals as goal

pub entry_in-requires-clause-suits : goal.entry_in-requires-clause-suits
entry_in-requires-clause-suits c = (λ i. suits Point (row (c.key.ensures i) (c.value.ensures i))) ∙ nth_suits Point c.args.block.now c.loop-i.i c.requires.rows (omega arith)

pub loop-i-preserved : goal.loop-i-preserved
loop-i-preserved c =
    let rows = c.args.block.now in
    let n = c.loop-i.i in
    let w = c.args.window.now in
    let entry_is = c.in_ok-entry.ensures ∙ (λ i. point_in (range_of w) w.synthetic (row (c.key.ensures i) (c.value.ensures i))) in
    c.in_ok-push_some.ensures ∙ (λ i. c.loop-i.invariant i ++ cons_option (entry_is i) [])
    ∙ append_assoc c.args.out.now.items (points_in (range_of w) w.synthetic (take n rows)) (cons_option (point_in (range_of w) w.synthetic (nth rows n)) [])
    ∙ ap (λ x. c.args.out.now.items ++ x) (sym (points_more (range_of w) w.synthetic rows n (omega arith)))
