-- Names and ranges stay.
use Rattle.std.proofs.Common.{refl, sym, subst}
use Rattle.xdb_snap.specs.Changes.{turned}
use Rattle.xdb_snap.specs.Listed.{AreListed}
use Rattle.xdb_snap.proofs.ListedLaws.{listed-changed_at}
use Rattle.xdb_snap.proofs.snaps.Snaps.turn.Goals as goal

pub invariant_of-self : goal.invariant_of-self
invariant_of-self g c = subst AreListed (sym c.turn.ensures) (listed-changed_at (turned c.args.hold) c.args.name.now c.self.inside.snaps.items (λ s. refl) (λ s. refl) c.self.invariant)
