-- The law `one_number_changes`, by its lemmas.
use Rattle.xdb_lists.proofs.NumberLaws.{among_insert, among_remove}
use Rattle.xdb_lists.proofs.one_number_changes.Goals as goal

pub returns-clause-insert : goal.returns-clause-insert
returns-clause-insert c = among_insert

pub returns-clause-remove : goal.returns-clause-remove
returns-clause-remove c = λ num ns at falling h. among_remove num ns at falling h.0 h.1
