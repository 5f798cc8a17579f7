-- The law `made_snapshots_show_the_map`, by its lemma.
use Rattle.xdb_laws.proofs.SnapshotLaws.{made-shows}
use Rattle.xdb_laws.proofs.snapshots.made_snapshots_show_the_map.Goals as goal

pub returns : goal.returns
returns c = made-shows
