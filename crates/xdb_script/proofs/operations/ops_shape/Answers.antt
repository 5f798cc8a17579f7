use Rattle.std.proofs.Common.{sym, ap, ◌∙◌, arith}
use Rattle.std.specs.List.{list_all}
use Rattle.xdb_script.proofs.Shapes.{shape-so, shape-not, shape-many}
use Rattle.xdb_script.specs.Answers.{texts}
use Rattle.xdb_script.specs.Reading.{is_op_shape}
use Rattle.xdb_script.proofs.operations.ops_shape.Goals as goal
use Rattle.xdb_script.proofs.operations.ops_shape.Goals.{else-are_op_shapes-via-then-are_op_shapes+else-len-le-MAX_OPS, else-are_op_shapes-via-else-are_op_shapes}

pub returns-then-len-le-MAX_OPS : goal.returns-then-len-le-MAX_OPS
returns-then-len-le-MAX_OPS c =
    let shaped = ap (λ ps. list_all (λ part. is_op_shape (texts part.now)) ps) (sym c.deref.ensures.value) ∙ sym c.are_op_shapes.ensures ∙ c.if-are_op_shapes.true in
    shape-so c.args.words.now c.in_ok-parts.parts.items c.in_ok-parts.ensures shaped (grind arith)

pub returns : goal.returns
returns c = elim c.else-are_op_shapes.branch [
  | else-are_op_shapes-via-then-are_op_shapes+else-len-le-MAX_OPS w ↦
      let shaped = ap (λ ps. list_all (λ part. is_op_shape (texts part.now)) ps) (sym c.deref.ensures.value) ∙ sym c.are_op_shapes.ensures ∙ w.if-are_op_shapes.true in
      shape-many c.args.words.now c.in_ok-parts.parts.items c.in_ok-parts.ensures shaped (grind arith)
  | else-are_op_shapes-via-else-are_op_shapes w ↦
      let shaped = ap (λ ps. list_all (λ part. is_op_shape (texts part.now)) ps) (sym c.deref.ensures.value) ∙ sym c.are_op_shapes.ensures ∙ w.if-are_op_shapes.false in
      shape-not c.args.words.now c.in_ok-parts.parts.items c.in_ok-parts.ensures shaped
]
