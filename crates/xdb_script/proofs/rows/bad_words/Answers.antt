use Rattle.std.proofs.Common.{refl}
use Rattle.std.specs.Fmt.{digits}
use Rattle.xdb_script.proofs.rows.bad_words.Goals as goal

pub returns-clause-token : goal.returns-clause-token
unfolding digits
returns-clause-token c = refl

pub returns-clause-upper : goal.returns-clause-upper
unfolding digits
returns-clause-upper c = refl

pub returns-clause-cut : goal.returns-clause-cut
unfolding digits
returns-clause-cut c = refl

pub returns-clause-quote : goal.returns-clause-quote
unfolding digits
returns-clause-quote c = refl

pub returns-clause-empty_key : goal.returns-clause-empty_key
unfolding digits
returns-clause-empty_key c = refl

pub returns-clause-name : goal.returns-clause-name
unfolding digits
returns-clause-name c = refl

pub returns-clause-fixed_name : goal.returns-clause-fixed_name
unfolding digits
returns-clause-fixed_name c = refl

pub returns-clause-limit : goal.returns-clause-limit
unfolding digits
returns-clause-limit c = refl

pub returns-clause-leading : goal.returns-clause-leading
unfolding digits
returns-clause-leading c = refl

pub returns-clause-zero : goal.returns-clause-zero
unfolding digits
returns-clause-zero c = refl

pub returns-clause-level : goal.returns-clause-level
unfolding digits
returns-clause-level c = refl

pub returns-clause-first_left : goal.returns-clause-first_left
unfolding digits
returns-clause-first_left c = refl

pub returns-clause-first_right : goal.returns-clause-first_right
unfolding digits
returns-clause-first_right c = refl

pub returns-clause-long_key : goal.returns-clause-long_key
unfolding digits
returns-clause-long_key c = refl
