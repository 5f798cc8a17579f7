use Rattle.std.proofs.Common.{map, length}
use Rattle.xdb_script.proofs.Each.{GoesOn}
use Rattle.xdb_script.specs.Answers.{texts}
use Rattle.xdb_script.specs.Drafts.{pair_texts}
use Rattle.xdb_script.specs.Reading.{pairs_shape}
use Rattle.xdb_script.proofs.client.pairs_shape.Given as goal

-- the pairs so far, and what is left
abbrev pub invariant-loop-rest : goal.invariant-loop-rest
invariant-loop-rest l = GoesOn (map pair_texts l.pairs.items) (pairs_shape (texts l.rest)) (pairs_shape (texts l.words))

abbrev pub decreases-loop-rest : goal.decreases-loop-rest
decreases-loop-rest l = length l.rest
