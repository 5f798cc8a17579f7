-- The law `places_are_numbers`, by its lemmas.
use Rattle.xdb_lists.proofs.PlaceLaws.{remove_is, set_is}
use Rattle.xdb_lists.proofs.places_are_numbers.Goals as goal

pub returns-clause-without : goal.returns-clause-without
returns-clause-without g c = λ key num xs at rising h. remove_is key num xs at rising h.0 h.1

pub returns-clause-replaced : goal.returns-clause-replaced
returns-clause-replaced g c = λ key r num xs at rising h. set_is key r num xs at rising h.0 h.1
