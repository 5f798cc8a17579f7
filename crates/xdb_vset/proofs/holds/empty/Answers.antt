-- The slot at the place is taken out, and the others stay.
use Rattle.std.proofs.Common.{◌+◌, ℕ, None, cond, eqb, sym, ap, ◌∙◌}
use Rattle.xdb_vset.specs.Holds.{slot_of, held_by}
use Rattle.xdb_vset.proofs.FileLaws.{same_choice}
use Rattle.xdb_vset.proofs.HoldLaws.{emptied, emptied_held, no_slot}
use Rattle.xdb_vset.proofs.holds.empty.Goals as goal

pub returns-in-Ok-clause-slot : goal.returns-in-Ok-clause-slot
returns-in-Ok-clause-slot c = λ n.
    let place = rw c.deref.ensures.value at c.in-Ok.ensures in
    ap (slot_of n) c.remove.ensures.items ∙ emptied c.args.slots.now.items c.args.id c.in-Ok.at c.requires.rising place.0 place.1 c.remove.result n

pub returns-in_default-clause-slot : goal.returns-in_default-clause-slot
returns-in_default-clause-slot c = λ n.
    let place = rw c.deref.ensures.value at c.in_default.ensures in
    sym (same_choice n c.args.id (λ m. slot_of m c.args.slots.now.items) None (no_slot c.args.slots.now.items c.args.id c.in_default.field-0 place))

pub returns-in-Ok-clause-held : goal.returns-in-Ok-clause-held
returns-in-Ok-clause-held c = λ version open' v.
    let place = rw c.deref.ensures.value at c.in-Ok.ensures in
    ap (λ ss. held_by v ss + cond {A = ℕ} (eqb v version) 1 0) c.remove.ensures.items ∙ emptied_held c.args.slots.now.items c.args.id c.in-Ok.at c.requires.rising place.0 place.1 c.remove.result version open' v

pub returns-in_default-clause-held : goal.returns-in_default-clause-held
returns-in_default-clause-held c = λ version open' v.
    let place = rw c.deref.ensures.value at c.in_default.ensures in
    let none = no_slot c.args.slots.now.items c.args.id c.in_default.field-0 place ∙ open' in
    absurd (cc)
