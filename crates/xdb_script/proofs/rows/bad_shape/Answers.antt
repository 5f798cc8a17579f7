use Rattle.std.proofs.Common.{refl}
use Rattle.std.specs.Fmt.{digits}
use Rattle.xdb_script.proofs.rows.bad_shape.Goals as goal

pub returns-clause-put : goal.returns-clause-put
unfolding digits
returns-clause-put c = refl

pub returns-clause-begin_nothing : goal.returns-clause-begin_nothing
unfolding digits
returns-clause-begin_nothing c = refl

pub returns-clause-begin_put : goal.returns-clause-begin_put
unfolding digits
returns-clause-begin_put c = refl

pub returns-clause-semicolon : goal.returns-clause-semicolon
unfolding digits
returns-clause-semicolon c = refl

pub returns-clause-semicolon_last : goal.returns-clause-semicolon_last
unfolding digits
returns-clause-semicolon_last c = refl

pub returns-clause-excise_one : goal.returns-clause-excise_one
unfolding digits
returns-clause-excise_one c = refl

pub returns-clause-excise_none : goal.returns-clause-excise_none
unfolding digits
returns-clause-excise_none c = refl

pub returns-clause-fixed : goal.returns-clause-fixed
unfolding digits
returns-clause-fixed c = refl

pub returns-clause-odd : goal.returns-clause-odd
unfolding digits
returns-clause-odd c = refl

pub returns-clause-level : goal.returns-clause-level
unfolding digits
returns-clause-level c = refl

pub returns-clause-token_before : goal.returns-clause-token_before
unfolding digits
returns-clause-token_before c = refl
