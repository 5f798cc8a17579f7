-- The law `snapshots_keep_their_copies`, by its lemmas.
use Rattle.xdb_laws.proofs.SnapshotLaws.{kept-along, kept-image, kept-held, kept-committed}
use Rattle.xdb_laws.proofs.snapshots.snapshots_keep_their_copies.Goals as goal

pub returns : goal.returns
returns c = record {
  ranges = λ s x y held same. kept-along s.state s.ranges s.mark s.copy x y held same;
  image = λ s x y held same. kept-image s.state s.ranges s.mark s.copy x y held same;
  committed = kept-committed;
  held = λ s x y held only. kept-held s.state s.ranges s.mark s.copy x y held only;
}
