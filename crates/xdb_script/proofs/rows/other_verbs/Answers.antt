use Rattle.std.proofs.Common.{refl}
use Rattle.std.specs.Fmt.{digits}
use Rattle.xdb_script.proofs.rows.other_verbs.Goals as goal

pub returns-clause-client : goal.returns-clause-client
unfolding digits
returns-clause-client c = refl

pub returns-clause-names : goal.returns-clause-names
unfolding digits
returns-clause-names c = refl

pub returns-clause-owner : goal.returns-clause-owner
unfolding digits
returns-clause-owner c = refl
