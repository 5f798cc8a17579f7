use Rattle.xdb_model.proofs.DisjointLaws.{disjoint-fit}
use Rattle.xdb_model.proofs.versions.levels_are_disjoint.Goals as goal

pub returns : goal.returns
returns c = disjoint-fit
