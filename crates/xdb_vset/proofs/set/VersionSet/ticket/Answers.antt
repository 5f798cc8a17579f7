-- One more ticket.
use Rattle.std.proofs.Common.{ℕ, Option, Some, None, cond, eqb, sym, ap, ◌∙◌}
use Rattle.xdb_vset.specs.Holds.{slot_of, held_by}
use Rattle.xdb_vset.specs.Seen.{Seen}
use Rattle.xdb_vset.proofs.HoldLaws.{held_pushed, slot_pushed}
use Rattle.xdb_vset.proofs.SetLaws.{set_ticket, none_next}
use Rattle.xdb_vset.proofs.set.VersionSet.ticket.Goals as goal

pub invariant_of-self-2 : goal.invariant_of-self-2
invariant_of-self-2 g c = (set_ticket _ c.push.new.self.items c.in-Some.next c.self.invariant.0 c.in_ok-push.ensures.items c.in-Some.ensures.1, λ v. c.self.invariant.1 v ∙ sym (ap (held_by v) c.in_ok-push.ensures.items ∙ held_pushed c.self.inside.slots.items c.self.inside.next v))

pub returns-clause-slot : goal.returns-clause-slot
returns-clause-slot g c = λ n.
    let slots = c.self.inside.slots.items in
    ap (slot_of n) c.in_ok-push.ensures.items ∙ slot_pushed slots (record { id = c.self.inside.next; version = None }) (none_next _ c.self.invariant.0) n
    ∙ ap (λ (s : Seen g.row.F.Denot). cond {A = Option (Option ℕ)} (eqb n c.self.inside.next) (Some None) (slot_of n s.slots)) c.self.view_is
