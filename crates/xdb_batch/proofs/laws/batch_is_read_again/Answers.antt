use Rattle.xdb_batch.proofs.Batches.{batch_again}
use Rattle.xdb_batch.proofs.laws.batch_is_read_again.Goals as goal

pub returns : goal.returns
returns c = batch_again
