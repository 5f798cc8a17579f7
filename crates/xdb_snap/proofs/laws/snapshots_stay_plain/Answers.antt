-- By the laws of both lists.
use Rattle.xdb_snap.proofs.BareLaws.{plain-made, plain-dropped, plain-ticket, plain-turned, plain-excised}
use Rattle.xdb_snap.proofs.laws.snapshots_stay_plain.Goals as goal

pub returns-clause-made : goal.returns-clause-made
returns-clause-made g c = λ snaps plains s p alike same. plain-made snaps plains alike s p same

pub returns-clause-dropped : goal.returns-clause-dropped
returns-clause-dropped g c = λ snaps plains name alike. plain-dropped snaps plains alike name

pub returns-clause-ticket : goal.returns-clause-ticket
returns-clause-ticket g c = λ snaps plains name alike. plain-ticket snaps plains alike name

pub returns-clause-turned : goal.returns-clause-turned
returns-clause-turned g c = λ snaps plains name hold alike. plain-turned snaps plains alike name hold

pub returns-clause-excised : goal.returns-clause-excised
returns-clause-excised g c = λ snaps plains load span alike. plain-excised snaps plains alike load span
