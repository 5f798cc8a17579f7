-- What holds of the set.
use Rattle.std.proofs.Common.{subst}
use Rattle.xdb_vset.specs.Seen.{IsSet}
use Rattle.xdb_vset.proofs.set.VersionSet.current.Goals as goal

pub returns-clause-set : goal.returns-clause-set
returns-clause-set g c = subst IsSet c.self.view_is c.self.invariant.0
