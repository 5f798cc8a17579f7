use Rattle.std.proofs.Common.{refl}
use Rattle.std.specs.Fmt.{digits}
use Rattle.xdb_script.proofs.rows.commits.Goals as goal

pub returns-clause-escaped : goal.returns-clause-escaped
unfolding digits
returns-clause-escaped c = refl

pub returns-clause-batch : goal.returns-clause-batch
unfolding digits
returns-clause-batch c = refl
