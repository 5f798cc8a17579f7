use Rattle.std.proofs.Common.{refl}
use Rattle.std.specs.Fmt.{digits}
use Rattle.xdb_gen.proofs.rows.each_rule_says.Goals as goal

pub returns-clause-load : goal.returns-clause-load
unfolding digits
returns-clause-load c = refl

pub returns-clause-first_snapshot : goal.returns-clause-first_snapshot
unfolding digits
returns-clause-first_snapshot c = refl

pub returns-clause-snapshot : goal.returns-clause-snapshot
unfolding digits
returns-clause-snapshot c = refl

pub returns-clause-del : goal.returns-clause-del
unfolding digits
returns-clause-del c = refl

pub returns-clause-delspan : goal.returns-clause-delspan
unfolding digits
returns-clause-delspan c = refl

pub returns-clause-scan : goal.returns-clause-scan
unfolding digits
returns-clause-scan c = refl
