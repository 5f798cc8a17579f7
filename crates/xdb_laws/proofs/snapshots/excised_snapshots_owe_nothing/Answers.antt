-- The law `excised_snapshots_owe_nothing`, by its lemma.
use Rattle.xdb_laws.proofs.SnapshotLaws.{installed-shows}
use Rattle.xdb_laws.proofs.snapshots.excised_snapshots_owe_nothing.Goals as goal

pub returns : goal.returns
returns c = installed-shows
