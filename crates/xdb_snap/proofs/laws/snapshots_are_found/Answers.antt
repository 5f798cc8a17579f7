-- By the laws of both lists.
use Rattle.xdb_snap.proofs.BareLaws.{plain-found, plain-count}
use Rattle.xdb_snap.proofs.laws.snapshots_are_found.Goals as goal

pub returns-clause-found : goal.returns-clause-found
returns-clause-found g c = λ snaps plains name alike. plain-found snaps plains alike name

pub returns-clause-count : goal.returns-clause-count
returns-clause-count g c = plain-count
