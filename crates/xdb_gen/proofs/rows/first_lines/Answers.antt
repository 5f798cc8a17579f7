use Rattle.std.proofs.Common.{refl}
use Rattle.std.specs.Fmt.{digits}
use Rattle.xdb_gen.proofs.rows.first_lines.Goals as goal

pub returns-clause-seven : goal.returns-clause-seven
unfolding digits
returns-clause-seven c = refl

pub returns-clause-zero : goal.returns-clause-zero
unfolding digits
returns-clause-zero c = refl

pub returns-clause-greatest : goal.returns-clause-greatest
unfolding digits
returns-clause-greatest c = refl
