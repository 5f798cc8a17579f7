-- By the laws of both lists.
use Rattle.xdb_snap.proofs.BareLaws.{refused-alike}
use Rattle.xdb_snap.proofs.laws.snapshots_are_refused_alike.Goals as goal

pub returns-clause-refused : goal.returns-clause-refused
returns-clause-refused g c = λ snaps p name ranges alike. refused-alike snaps p alike name ranges
