use Rattle.std.proofs.Common.{map, ◌∙◌}
use Rattle.std.proofs.lemmas.Result.{err_from_is_err_and}
use Rattle.xdb_script.proofs.Each.{all_read-map, each_failed_at, each_ends}
use Rattle.xdb_script.specs.Answers.{texts}
use Rattle.xdb_script.specs.Drafts.{drafted}
use Rattle.xdb_script.specs.Reading.{op_read}
use Rattle.xdb_script.proofs.operations.read_ops.Goals as goal

pub returns-in_err-read_op : goal.returns-in_err-read_op
returns-in_err-read_op c =
    let p = err_from_is_err_and c.from_residual-in_err-read_op.result c.from_residual-in_err-read_op.ensures.1 in
    rw (p.1, p.2, all_read-map op_read (λ part. texts part.now) c.args.parts.now)
    (each_failed_at (λ part. op_read (texts part.now)) c.args.parts.now c.loop-part.part-index _ (map drafted c.loop-part.drafts.items) c.in_err-read_op.field-0.0 _ c.loop-part-test.true c.in_err-read_op.ensures c.loop-part.invariant)

pub returns : goal.returns
returns c =
    all_read-map op_read (λ part. texts part.now) c.args.parts.now
    ∙ each_ends (λ part. op_read (texts part.now)) c.args.parts.now c.loop-part.part-index (map drafted c.loop-part.drafts.items) _ c.loop-part-test.false c.loop-part.invariant
