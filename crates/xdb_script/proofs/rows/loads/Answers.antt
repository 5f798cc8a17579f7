use Rattle.std.proofs.Common.{refl}
use Rattle.std.specs.Fmt.{digits}
use Rattle.xdb_script.proofs.rows.loads.Goals as goal

pub returns-clause-tables : goal.returns-clause-tables
unfolding digits
returns-clause-tables c = refl

pub returns-clause-nothing : goal.returns-clause-nothing
unfolding digits
returns-clause-nothing c = refl
