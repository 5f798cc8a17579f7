-- The law `turned_snapshots_show_their_copies`, by its lemma.
use Rattle.xdb_laws.proofs.SnapshotLaws.{turned-shows}
use Rattle.xdb_laws.proofs.snapshots.turned_snapshots_show_their_copies.Goals as goal

pub returns : goal.returns
returns c = turned-shows
