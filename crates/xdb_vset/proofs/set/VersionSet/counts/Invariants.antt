-- The first files are counted.
use Rattle.std.proofs.Common.{◌≡◌, map, take}
use Rattle.xdb_vset.proofs.set.VersionSet.counts.Given as goal

abbrev pub invariant-loop-backing : goal.invariant-loop-backing
invariant-loop-backing g l = l.counts.items ≡ map (λ x. (x.num, x.count)) (take l.backing-index l.backing-items)
