-- What is left to answer of `empty`.
use Rattle.xdb_mem.proofs.PickLaws.{nothing-in}
use Rattle.xdb_mem.proofs.parts.MemParts.empty.Goals as goal

pub returns-clause-spans : goal.returns-clause-spans
returns-clause-spans c = nothing-in c.in_ok-spans.spans c.in_ok-spans.ensures.pieces
