-- Names and ranges stay.
use Rattle.std.proofs.Common.{refl, sym, subst}
use Rattle.xdb_snap.specs.Changes.{without_ticket}
use Rattle.xdb_snap.specs.Listed.{AreListed}
use Rattle.xdb_snap.proofs.ListedLaws.{listed-changed_at}
use Rattle.xdb_snap.proofs.snaps.Snaps.take_ticket.Goals as goal

pub invariant_of-self : goal.invariant_of-self
invariant_of-self g c = subst AreListed (sym c.take_ticket.ensures.rest) (listed-changed_at without_ticket c.args.name.now c.self.inside.snaps.items (λ s. refl) (λ s. refl) c.self.invariant)
