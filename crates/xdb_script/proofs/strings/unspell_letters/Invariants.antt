use Rattle.std.proofs.Common.{length}
use Rattle.xdb_script.proofs.Spelling.{IsSoFar}
use Rattle.xdb_script.proofs.strings.unspell_letters.Given as goal

abbrev pub invariant-loop-rest : goal.invariant-loop-rest
invariant-loop-rest l = IsSoFar l.word l.bytes.items l.rest

abbrev pub decreases-loop-rest : goal.decreases-loop-rest
decreases-loop-rest l = length l.rest
