use Rattle.std.proofs.Common.{refl}
use Rattle.std.specs.Fmt.{digits}
use Rattle.xdb_script.proofs.rows.bad_rules.Goals as goal

pub returns-clause-range : goal.returns-clause-range
unfolding digits
returns-clause-range c = refl

pub returns-clause-excise : goal.returns-clause-excise
unfolding digits
returns-clause-excise c = refl

pub returns-clause-table : goal.returns-clause-table
unfolding digits
returns-clause-table c = refl

pub returns-clause-order : goal.returns-clause-order
unfolding digits
returns-clause-order c = refl

pub returns-clause-same : goal.returns-clause-same
unfolding digits
returns-clause-same c = refl
