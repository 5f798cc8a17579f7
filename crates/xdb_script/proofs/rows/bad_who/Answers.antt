use Rattle.std.proofs.Common.{refl}
use Rattle.std.specs.Fmt.{digits}
use Rattle.xdb_script.proofs.rows.bad_who.Goals as goal

pub returns-clause-seventeen : goal.returns-clause-seventeen
unfolding digits
returns-clause-seventeen c = refl

pub returns-clause-zero : goal.returns-clause-zero
unfolding digits
returns-clause-zero c = refl

pub returns-clause-leading : goal.returns-clause-leading
unfolding digits
returns-clause-leading c = refl

pub returns-clause-owner : goal.returns-clause-owner
unfolding digits
returns-clause-owner c = refl

pub returns-clause-verb_behind : goal.returns-clause-verb_behind
unfolding digits
returns-clause-verb_behind c = refl
