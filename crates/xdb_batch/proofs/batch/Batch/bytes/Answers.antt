use Rattle.std.proofs.Common.{◌≡◌, ◌∙◌, Ok, ap, subst}
use Rattle.std.proofs.lemmas.Result.{IfOk-weaker}
use Rattle.xdb_batch.specs.Reading.{batch_at}
use Rattle.xdb_batch.specs.Spelling.{batch_bytes, AreOps, IsBatch}
use Rattle.xdb_batch.proofs.Batches.{batch_again}
use Rattle.xdb_batch.proofs.batch.Batch.bytes.Goals as goal

pub returns-clause-again : goal.returns-clause-again
returns-clause-again c =
    let first = c.args.first in
    let ops = c.args.self.now in
    let lent : c.deref.result.now ≡ ops = c.deref.ensures.value ∙ c.self.view_is in
    let within : IsBatch first ops = record {
      limits = subst AreOps c.self.view_is c.self.invariant.limits;
      some = c.requires.some;
      from = c.requires.from;
      upto = c.requires.upto;
    } in
    IfOk-weaker c.write_batch.result (λ bytes. bytes.items ≡ batch_bytes first c.deref.result.now) (λ bytes. batch_at bytes.items ≡ Ok (first, ops))
    (λ bytes e. ap batch_at (e ∙ ap (batch_bytes first) lent) ∙ batch_again first ops within) c.write_batch.ensures
