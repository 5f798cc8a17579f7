-- The list of the dead has those of the definition.
use Rattle.std.proofs.Common.{◌≡◌, subst}
use Rattle.xdb_lists.specs.Numbers.{is_among, NumbersRise}
use Rattle.xdb_vset.specs.Seen.{Seen, is_dead}
use Rattle.xdb_vset.proofs.SetLaws.{dead_is}
use Rattle.xdb_vset.proofs.set.VersionSet.dead_len.Goals as goal

pub returns-clause-rising : goal.returns-clause-rising
returns-clause-rising g c = subst (λ (s : Seen g.row.F.Denot). NumbersRise s.dead) c.self.view_is c.self.invariant.0.lists.dead_rise

pub returns-clause-dead : goal.returns-clause-dead
returns-clause-dead g c = λ n. subst (λ (s : Seen g.row.F.Denot). is_among n s.dead ≡ is_dead s n) c.self.view_is (dead_is _ n c.self.invariant.0)
