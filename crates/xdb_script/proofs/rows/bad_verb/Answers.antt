use Rattle.std.proofs.Common.{refl}
use Rattle.std.specs.Fmt.{digits}
use Rattle.xdb_script.proofs.rows.bad_verb.Goals as goal

pub returns-clause-walk : goal.returns-clause-walk
unfolding digits
returns-clause-walk c = refl

pub returns-clause-missing : goal.returns-clause-missing
unfolding digits
returns-clause-missing c = refl

pub returns-clause-of_owner : goal.returns-clause-of_owner
unfolding digits
returns-clause-of_owner c = refl

pub returns-clause-of_client : goal.returns-clause-of_client
unfolding digits
returns-clause-of_client c = refl

pub returns-clause-begin : goal.returns-clause-begin
unfolding digits
returns-clause-begin c = refl

pub returns-clause-settle : goal.returns-clause-settle
unfolding digits
returns-clause-settle c = refl
