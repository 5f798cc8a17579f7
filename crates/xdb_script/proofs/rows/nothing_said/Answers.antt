use Rattle.std.proofs.Common.{refl}
use Rattle.std.specs.Fmt.{digits}
use Rattle.xdb_script.proofs.rows.nothing_said.Goals as goal

pub returns-clause-none : goal.returns-clause-none
unfolding digits
returns-clause-none c = refl

pub returns-clause-empty_line : goal.returns-clause-empty_line
unfolding digits
returns-clause-empty_line c = refl

pub returns-clause-comments : goal.returns-clause-comments
unfolding digits
returns-clause-comments c = refl
