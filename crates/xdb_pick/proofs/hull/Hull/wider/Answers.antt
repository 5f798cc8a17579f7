-- It begins before it ends, since it did.
use Rattle.xdb_key.specs.Bounds.{bounds}
use Rattle.xdb_pick.proofs.RangeLaws.{wider-has_key}
use Rattle.xdb_pick.proofs.hull.Hull.wider.Goals as goal

pub invariant_of-result : goal.invariant_of-result
invariant_of-result c =
    rw (c.lesser.ensures, c.greater.ensures, c.lo.ensures.lo, c.hi.ensures)
    (wider-has_key (bounds c.self.inside.lo.now c.self.inside.hi.now) c.args.range.now c.self.invariant)
