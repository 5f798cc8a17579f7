use Rattle.std.proofs.Common.{subst, ap, sym, ◌∙◌, arith}
use Rattle.std.proofs.lemmas.Result.{err_from_is_err_and}
use Rattle.xdb_batch.specs.Reading.{IsDefect, batch_at}
use Rattle.xdb_batch.proofs.Batches.{batch_takes, batch_again, ReadsBatch-kept}
use Rattle.xdb_batch.proofs.batch.Batch.from_bytes.Goals as goal

pub returns-in_err-first-clause-only : goal.returns-in_err-first-clause-only
returns-in_err-first-clause-only c = λ first ops fits e.
    let p = err_from_is_err_and c.from_residual.result c.from_residual.ensures.1 in
    rw (p.1, p.2) (subst (λ r. IsDefect c.in_err-first.field-0.0 r) (ap batch_at e ∙ batch_again first ops fits) c.in_err-first.ensures)

pub invariant_of-result : goal.invariant_of-result
invariant_of-result c =
    ReadsBatch-kept _ _ _ (batch_takes c.args.bytes.now (c.in_ok-first.first, c.in_ok-first.ops.items) (λ i. omega (arith, c.type_inv.bytes i)) c.in_ok-first.ensures)

pub returns-clause-found : goal.returns-clause-found
returns-clause-found c =
    let read = batch_takes c.args.bytes.now (c.in_ok-first.first, c.in_ok-first.ops.items) (λ i. omega (arith, c.type_inv.bytes i)) c.in_ok-first.ensures in
    (read.within, read.is)

pub returns-clause-only : goal.returns-clause-only
returns-clause-only c = λ first ops fits e. sym (ap batch_at e ∙ batch_again first ops fits) ∙ c.in_ok-first.ensures
