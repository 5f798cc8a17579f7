-- What is left to answer of `Layer::first_seen`.
use Rattle.std.proofs.Common.{subst}
use Rattle.xdb_mem.specs.Parts.{Parts}
use Rattle.xdb_merge.specs.Layers.{AreSorted}
use Rattle.xdb_merge.proofs.layer.Layer.first_seen.Goals as goal

pub returns-clause-sorted : goal.returns-clause-sorted
returns-clause-sorted c = subst (λ (l : Parts). AreSorted l.entries) c.self.view_is c.self.invariant
