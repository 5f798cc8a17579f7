-- The law `searches_tell`, by its lemmas.
use Rattle.xdb_lists.proofs.KeyLaws.{key_found, key_missing}
use Rattle.xdb_lists.proofs.NumberLaws.{among-sought}
use Rattle.xdb_lists.proofs.searches_tell.Goals as goal

pub returns-clause-found : goal.returns-clause-found
returns-clause-found g c = λ key num xs at d rising h. key_found key num xs at d rising h.0 h.1

pub returns-clause-missing : goal.returns-clause-missing
returns-clause-missing g c = λ key num xs at h. key_missing key num xs at h

pub returns-clause-among : goal.returns-clause-among
returns-clause-among g c = among-sought
