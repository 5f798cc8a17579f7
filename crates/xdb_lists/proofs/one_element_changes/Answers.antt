-- The law `one_element_changes`, by its lemmas.
use Rattle.std.proofs.Common.{refl}
use Rattle.xdb_lists.proofs.KeyLaws.{key_set, key_insert, key_remove, key_pushed}
use Rattle.xdb_lists.proofs.one_element_changes.Goals as goal

pub returns-clause-set : goal.returns-clause-set
returns-clause-set g c = λ key xs at y rising h. key_set key (key y) xs at y rising h.0 h.1 refl

pub returns-clause-insert : goal.returns-clause-insert
returns-clause-insert g c = λ key xs at y h. key_insert key (key y) xs at y h refl

pub returns-clause-remove : goal.returns-clause-remove
returns-clause-remove g c = λ key num xs at d rising h. key_remove key num xs at d rising h.0 h.1

pub returns-clause-pushed : goal.returns-clause-pushed
returns-clause-pushed g c = λ key xs y none. key_pushed key xs y none
