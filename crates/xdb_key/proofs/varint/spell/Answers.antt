use Rattle.std.proofs.Common.{refl, arith}
use Rattle.xdb_key.specs.Varint.{varint}
use Rattle.xdb_key.proofs.VarintLaws.{Spells-more, Spells-last}
use Rattle.xdb_key.proofs.varint.spell.Goals as goal

pub loop-rest-init : goal.loop-rest-init
unfolding varint
loop-rest-init c = record { full = c.told-groups; within = omega arith; small = c.requires; spelled = refl }

pub loop-rest-preserved : goal.loop-rest-preserved
loop-rest-preserved c = Spells-more _ _ _ _ c.loop-rest-test.true c.loop-rest.invariant

pub returns-clause-spelled : goal.returns-clause-spelled
returns-clause-spelled c = Spells-last _ _ _ _ c.loop-rest-test.false c.loop-rest.invariant
