use Rattle.xdb_script.proofs.Scripts.{first-bad, first-bad-again}
use Rattle.xdb_script.proofs.laws.first_bad_line_is_named.Goals as goal

pub returns-clause-only : goal.returns-clause-only
returns-clause-only c = first-bad

pub returns-clause-found : goal.returns-clause-found
returns-clause-found c = first-bad-again
