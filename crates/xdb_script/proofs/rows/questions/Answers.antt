use Rattle.std.proofs.Common.{refl}
use Rattle.std.specs.Fmt.{digits}
use Rattle.xdb_script.proofs.rows.questions.Goals as goal

pub returns-clause-scan : goal.returns-clause-scan
unfolding digits
returns-clause-scan c = refl

pub returns-clause-begin : goal.returns-clause-begin
unfolding digits
returns-clause-begin c = refl

pub returns-clause-workers : goal.returns-clause-workers
unfolding digits
returns-clause-workers c = refl
