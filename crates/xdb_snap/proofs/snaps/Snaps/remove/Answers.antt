-- What is left is listed.
use Rattle.std.proofs.Common.{sym, subst}
use Rattle.xdb_snap.specs.Listed.{AreListed}
use Rattle.xdb_snap.proofs.ListedLaws.{listed-removed}
use Rattle.xdb_snap.proofs.snaps.Snaps.remove.Goals as goal

pub invariant_of-self : goal.invariant_of-self
invariant_of-self g c = subst AreListed (sym c.take_out.ensures.rest) (listed-removed c.args.name.now c.self.inside.snaps.items c.self.invariant)
