use Rattle.xdb_key.specs.Varint.{varint}
use Rattle.xdb_key.proofs.VarintLaws.{Spells}
use Rattle.xdb_key.proofs.varint.spell.Given as goal

abbrev pub invariant-loop-rest : goal.invariant-loop-rest
invariant-loop-rest l = Spells (varint l.n) l.groups l.len l.rest

abbrev pub decreases-loop-rest : goal.decreases-loop-rest
decreases-loop-rest l = l.rest
