use Rattle.std.proofs.Common.{◌≤◌, length}
use Rattle.xdb_batch.specs.Reading.{ops_at}
use Rattle.xdb_batch.proofs.Loop.{GoesOn}
use Rattle.xdb_batch.proofs.reading.read_ops.Given as goal

abbrev pub invariant-loop-found : goal.invariant-loop-found
invariant-loop-found l = record {
  so_far : GoesOn l.count l.end l.found l.ops.items l.rest (ops_at l.count l.end l.count l.bytes);
  shorter : length l.rest ≤ length l.bytes;
}
