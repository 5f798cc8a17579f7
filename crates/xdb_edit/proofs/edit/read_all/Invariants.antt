-- What is left goes on with what was read.
use Rattle.std.proofs.Common.{length}
use Rattle.xdb_edit.proofs.ReadingLoop.{IsHalfway}
use Rattle.xdb_edit.proofs.edit.read_all.Given as goal

abbrev pub invariant-loop-rest : goal.invariant-loop-rest
invariant-loop-rest l = IsHalfway l.bytes l.rest l.input.len l.last l.lists

abbrev pub decreases-loop-rest : goal.decreases-loop-rest
decreases-loop-rest l = length l.rest
