-- The current version is there, and is held once more.
use Rattle.std.proofs.Common.{map, inl, refl, ap, ◌∙◌, arith}
use Rattle.xdb_vset.specs.Holds.{slot_of}
use Rattle.xdb_vset.specs.Versions.{version_in}
use Rattle.xdb_vset.proofs.HoldLaws.{held_few}
use Rattle.xdb_vset.proofs.InUseLaws.{rising_seen}
use Rattle.xdb_vset.proofs.SetLaws.{set_held, set_same}
use Rattle.xdb_vset.proofs.set.VersionSet.hold.Goals as goal

pub hold-requires-clause-rising : goal.hold-requires-clause-rising
hold-requires-clause-rising g c = rising_seen c.self.inside.older.items c.self.invariant.0.older_rise

pub hold-requires-clause-small : goal.hold-requires-clause-small
hold-requires-clause-small g c =
    let few = held_few c.self.inside.slots.items c.self.inside.current.num in
    let kept = c.self.invariant.1 c.self.inside.current.num in
    let ok = c.self.inside.slots.ok in
    let small = c.self.inside.slots.small in
    omega arith

pub invariant_of-self : goal.invariant_of-self
invariant_of-self g c =
    let ticket = ap (λ n. slot_of n c.self.inside.slots.items) c.t.view_is ∙ ap (λ s. slot_of c.args.t s.slots) c.self.view_is ∙ c.requires in
    let slots = c.fill.new.slots.items in (
      set_same _ (version_in c.hold.new.current) (map version_in c.hold.new.older.items) c.hold.ensures.current c.hold.ensures.older
          (set_held _ slots c.t.inside.id c.self.inside.current.num c.self.invariant.0 ticket (inl refl) c.fill.ensures.rising c.fill.ensures.slot),
      λ v.
          let now = c.hold.ensures.holds v in
          let before = c.self.invariant.1 v in
          let more = c.fill.ensures.held v in
          omega arith,
    )
