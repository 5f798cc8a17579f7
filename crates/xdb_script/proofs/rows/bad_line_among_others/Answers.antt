use Rattle.std.proofs.Common.{refl}
use Rattle.std.specs.Fmt.{digits}
use Rattle.xdb_script.proofs.rows.bad_line_among_others.Goals as goal

pub returns-clause-fifth : goal.returns-clause-fifth
unfolding digits
returns-clause-fifth c = refl

pub returns-clause-first : goal.returns-clause-first
unfolding digits
returns-clause-first c = refl

pub returns-clause-below : goal.returns-clause-below
unfolding digits
returns-clause-below c = refl

pub returns-clause-again : goal.returns-clause-again
unfolding digits
returns-clause-again c = refl

pub returns-clause-comment : goal.returns-clause-comment
unfolding digits
returns-clause-comment c = refl
