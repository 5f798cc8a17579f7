use Rattle.xdb_model.proofs.DisjointLaws.{disjoint-apart}
use Rattle.xdb_model.proofs.versions.disjoint_tables_are_apart.Goals as goal

pub returns : goal.returns
returns c = disjoint-apart
