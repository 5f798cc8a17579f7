-- The version that another hold is of is there, and is held once more.
use Rattle.std.proofs.Common.{map, Some, inl, inr, sym, ap, ◌∙◌, arith}
use Rattle.xdb_vset.specs.Holds.{slot_of}
use Rattle.xdb_vset.specs.Versions.{version_in}
use Rattle.xdb_vset.proofs.HoldLaws.{held_few}
use Rattle.xdb_vset.proofs.InUseLaws.{rising_seen, seen_some}
use Rattle.xdb_vset.proofs.SetLaws.{set_held, set_same}
use Rattle.xdb_vset.proofs.set.VersionSet.hold_same.Goals as goal

pub hold-requires-clause-rising : goal.hold-requires-clause-rising
hold-requires-clause-rising g c = rising_seen c.self.inside.older.items c.self.invariant.0.older_rise

pub hold-requires-clause-stands : goal.hold-requires-clause-stands
hold-requires-clause-stands g c =
    let slots = c.self.inside.slots.items in
    let open' = ap (λ h. slot_of h.id slots) c.of.view_is ∙ ap (λ s. slot_of c.args.of.now.id s.slots) c.self.view_is ∙ c.requires.open ∙ ap (λ h. Some (Some h.version)) (sym c.of.view_is) in
    elim (c.self.invariant.0.holds_stand c.of.inside.id c.of.inside.version open') [
      | inl e ↦ inl e
      | inr some ↦ inr (sym (seen_some c.of.inside.version c.self.inside.older.items) ∙ some)
    ]

pub hold-requires-clause-small : goal.hold-requires-clause-small
hold-requires-clause-small g c =
    let few = held_few c.self.inside.slots.items c.of.inside.version in
    let kept = c.self.invariant.1 c.of.inside.version in
    let ok = c.self.inside.slots.ok in
    let small = c.self.inside.slots.small in
    omega arith

pub invariant_of-self : goal.invariant_of-self
invariant_of-self g c =
    let slots = c.self.inside.slots.items in
    let ticket = ap (λ n. slot_of n slots) c.t.view_is ∙ ap (λ s. slot_of c.args.t s.slots) c.self.view_is ∙ c.requires.ticket in
    let open' = ap (λ h. slot_of h.id slots) c.of.view_is ∙ ap (λ s. slot_of c.args.of.now.id s.slots) c.self.view_is ∙ c.requires.open ∙ ap (λ h. Some (Some h.version)) (sym c.of.view_is) in (
      set_same _ (version_in c.hold.new.current) (map version_in c.hold.new.older.items) c.hold.ensures.current c.hold.ensures.older
          (set_held _ c.fill.new.slots.items c.t.inside.id c.of.inside.version c.self.invariant.0 ticket (c.self.invariant.0.holds_stand c.of.inside.id c.of.inside.version open') c.fill.ensures.rising c.fill.ensures.slot),
      λ v.
          let now = c.hold.ensures.holds v in
          let before = c.self.invariant.1 v in
          let more = c.fill.ensures.held v in
          omega arith,
    )
