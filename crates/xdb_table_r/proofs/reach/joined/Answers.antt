use Rattle.std.proofs.Common.{◌≡◌, sym, subst}
use Rattle.xdb_key.specs.Bounds.{bounds}
use Rattle.xdb_key.specs.Entries.{Reach, reach, IsReach}
use Rattle.xdb_table_r.specs.Reaches.{joined}
use Rattle.xdb_table_r.proofs.ReachLaws.{joined_is_reach}
use Rattle.xdb_table_r.proofs.reach.joined.Goals as goal

pub invariant_of-result : goal.invariant_of-result
invariant_of-result c =
    let a : Reach = reach (bounds c.a.inside.lo c.a.inside.hi) c.a.inside.seq_lo c.a.inside.seq_hi in
    let b : Reach = reach (bounds c.b.inside.lo c.b.inside.hi) c.b.inside.seq_lo c.b.inside.seq_hi in
    let is : joined a b ≡ reach (bounds c.min.result c.max.result) c.min-2.result c.max-2.result = λ i. reach (bounds (sym c.min.ensures i) (sym c.max.ensures i)) (sym c.min-2.ensures i) (sym c.max-2.ensures i) in
    subst IsReach is (joined_is_reach a b c.a.invariant c.b.invariant)
