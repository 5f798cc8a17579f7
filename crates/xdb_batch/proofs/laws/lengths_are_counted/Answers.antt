use Rattle.xdb_batch.proofs.Lengths.{length-varint, length-batch_bytes}
use Rattle.xdb_batch.proofs.laws.lengths_are_counted.Goals as goal

pub returns : goal.returns
returns c = record { number = length-varint; batch = λ first ops fits. length-batch_bytes first ops fits.limits.each }
