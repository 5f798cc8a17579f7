-- The version is current, or among the older ones.
use Rattle.std.proofs.Common.{Some, refl, sym, ap, subst, ◌∙◌}
use Rattle.xdb_lists.specs.Keyed.{IsRising}
use Rattle.xdb_vset.specs.Holds.{slot_of}
use Rattle.xdb_vset.specs.Seen.{version_of}
use Rattle.xdb_vset.proofs.InUseLaws.{rising_seen}
use Rattle.xdb_vset.proofs.SetLaws.{version_found, never_lost}
use Rattle.xdb_vset.proofs.set.VersionSet.held.Goals as goal

pub returns-in-Ok : goal.returns-in-Ok
returns-in-Ok g c =
    let place = rw c.deref.ensures.value at c.in-Ok.ensures in
    version_found _ c.self.inside.older.items c.id.inside.version c.in-Ok.at c.index.result.now c.self.invariant.0 refl (rising_seen c.self.inside.older.items c.self.invariant.0.older_rise) c.if-id-self.false place.0 place.1 c.index.ensures
    ∙ ap (λ s. version_of s c.id.inside.version) c.self.view_is
    ∙ ap (λ h. version_of c.args.self.now h.version) c.id.view_is

pub returns-in-Err : goal.returns-in-Err
returns-in-Err g c =
    let place = rw c.deref.ensures.value at c.in-Err.ensures in
    let open' = ap (λ h. slot_of h.id c.self.inside.slots.items) c.id.view_is ∙ ap (λ s. slot_of c.args.id.now.id s.slots) c.self.view_is ∙ c.requires ∙ ap (λ h. Some (Some h.version)) (sym c.id.view_is) in
    absurd (never_lost _ c.self.inside.older.items c.id.inside.id c.id.inside.version c.in-Err.field-0 c.self.invariant.0 refl c.if-id-self.false open' place)

pub find-requires : goal.find-requires
find-requires g c = subst (IsRising (λ w. w.num)) (sym c.deref.ensures.value) (rising_seen c.self.inside.older.items c.self.invariant.0.older_rise)
