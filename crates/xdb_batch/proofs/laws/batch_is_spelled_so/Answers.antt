use Rattle.xdb_batch.proofs.Batches.{batch_takes}
use Rattle.xdb_batch.proofs.laws.batch_is_spelled_so.Goals as goal

pub returns : goal.returns
returns c = record {
  spelled = λ bytes first ops fits e. (batch_takes bytes (first, ops) fits e).is;
  within = λ bytes first ops fits e. (batch_takes bytes (first, ops) fits e).within;
}
