-- Names and ranges stay.
use Rattle.std.proofs.Common.{refl, sym, subst}
use Rattle.xdb_snap.specs.Changes.{excised}
use Rattle.xdb_snap.specs.Listed.{AreListed}
use Rattle.xdb_snap.proofs.ListedLaws.{listed-changed}
use Rattle.xdb_snap.proofs.snaps.Snaps.excised.Goals as goal

pub invariant_of-self : goal.invariant_of-self
invariant_of-self g c = subst AreListed (sym c.excise.ensures) (listed-changed (excised c.args.load c.args.span.now) c.self.inside.snaps.items (λ s. refl) (λ s. refl) c.self.invariant)
