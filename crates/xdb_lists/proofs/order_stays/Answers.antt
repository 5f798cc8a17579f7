-- The law `order_stays`, by its lemmas.
use Rattle.std.proofs.Common.{refl}
use Rattle.xdb_lists.proofs.KeyLaws.{rising_set, rising_insert}
use Rattle.xdb_lists.proofs.order_stays.Goals as goal

pub returns-clause-set : goal.returns-clause-set
returns-clause-set g c = λ key xs at y rising h. rising_set key xs at y rising h.0 h.1

pub returns-clause-insert : goal.returns-clause-insert
returns-clause-insert g c = λ key xs at y rising h. rising_insert key (key y) xs at y rising h refl
