use Rattle.std.proofs.Common.{◌≤◌, length, arith}
use Rattle.std.proofs.lemmas.Result.{err_from_is_err_and}
use Rattle.xdb_batch.proofs.Loop.{behind, length-behind, goes_on, fails, runs_out, is_done}
use Rattle.xdb_batch.proofs.reading.read_ops.Goals as goal

pub returns-in_default-clause-answers : goal.returns-in_default-clause-answers
returns-in_default-clause-answers c =
    runs_out c.args.count c.args.end c.loop-found.found c.loop-found.ops.items c.loop-found.rest.now _ c.loop-found-test.true c.in_default.len_below c.loop-found.invariant.so_far

pub returns-in_err-op-clause-answers : goal.returns-in_err-op-clause-answers
returns-in_err-op-clause-answers c =
    let p = err_from_is_err_and c.from_residual-in_err-op.result c.from_residual-in_err-op.ensures.1 in
    rw (p.1, p.2) (fails c.in_err-op.field-0.0 c.args.count c.args.end c.loop-found.found c.loop-found.ops.items c.loop-found.rest.now _ c.loop-found-test.true c.in-len1-up.len_at_least c.in_err-op.ensures.answers c.loop-found.invariant.so_far)

pub loop-found-preserved : goal.loop-found-preserved
loop-found-preserved c =
    let next = goes_on c.args.count c.args.end c.loop-found.found c.loop-found.ops.items c.loop-found.rest.now c.in_ok-op.op c.in_ok-op.after.now _ c.loop-found-test.true c.in-len1-up.len_at_least c.in_ok-op.ensures.answers c.loop-found.invariant.so_far in
    let left : length c.in_ok-op.after.now ≤ length (behind c.loop-found.rest.now) = c.in_ok-op.ensures.shorter in
    let before = c.loop-found.invariant.shorter in
    record { so_far = rw c.in_ok-push.ensures.items next; shorter = omega (arith, length-behind c.loop-found.rest.now c.in-len1-up.len_at_least) }

pub returns-clause-answers : goal.returns-clause-answers
returns-clause-answers c =
    is_done c.args.count c.args.end c.loop-found.found c.loop-found.ops.items c.loop-found.rest.now _ c.loop-found-test.false c.loop-found.invariant.so_far
