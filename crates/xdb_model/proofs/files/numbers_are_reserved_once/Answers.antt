use Rattle.xdb_model.proofs.ReservedLaws.{reserved-rise, reserved-within, reserved-once}
use Rattle.xdb_model.proofs.files.numbers_are_reserved_once.Goals as goal

pub returns-clause-rise : goal.returns-clause-rise
returns-clause-rise c = reserved-rise

pub returns-clause-within : goal.returns-clause-within
returns-clause-within c = reserved-within

pub returns-clause-once : goal.returns-clause-once
returns-clause-once c = reserved-once
