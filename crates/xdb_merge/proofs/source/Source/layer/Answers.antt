-- The points are sorted.
use Rattle.std.proofs.Common.{sym, subst}
use Rattle.xdb_merge.specs.Layers.{AreSorted}
use Rattle.xdb_merge.proofs.SourceLaws.{sorted_walk}
use Rattle.xdb_merge.proofs.source.Source.layer.Goals as goal

pub new-requires : goal.new-requires
new-requires g c = subst AreSorted (sym c.points.ensures.points) (sorted_walk g.F.FileRef.bytes _ c.points.ensures.walk)
