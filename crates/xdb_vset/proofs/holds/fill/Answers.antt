-- The slot at the place is filled, and the others stay.
use Rattle.std.proofs.Common.{Some, refl, sym, ap, ◌∙◌}
use Rattle.xdb_lists.proofs.KeyLaws.{rising_set}
use Rattle.xdb_vset.proofs.HoldLaws.{filled, filled_held, no_slot}
use Rattle.xdb_vset.proofs.holds.fill.Goals as goal

pub returns-in-Ok-clause-rising : goal.returns-in-Ok-clause-rising
returns-in-Ok-clause-rising c =
    let place = rw c.deref.ensures.value at c.in-Ok.ensures in
    let x = c.index_mut-slot.result.now in
    let e = ap (λ s. s.id) c.index_mut-slot.ensures.value ∙ place.1 x in
    rising_set (λ s. s.id) c.args.slots.now.items c.in-Ok.at (record { id = x.id; version = Some c.args.version }) c.requires.rising place.0 (λ d. place.1 d ∙ sym e)

pub returns-in-Ok-clause-slot : goal.returns-in-Ok-clause-slot
returns-in-Ok-clause-slot c = λ n.
    let place = rw c.deref.ensures.value at c.in-Ok.ensures in
    let x = c.index_mut-slot.result.now in
    let e = ap (λ s. s.id) c.index_mut-slot.ensures.value ∙ place.1 x in
    filled c.args.slots.now.items c.args.id c.in-Ok.at c.requires.rising place.0 place.1 (record { id = x.id; version = Some c.args.version }) e n

pub returns-in_default-clause-slot : goal.returns-in_default-clause-slot
returns-in_default-clause-slot c =
    let place = rw c.deref.ensures.value at c.in_default.ensures in
    let none = no_slot c.args.slots.now.items c.args.id c.in_default.field-0 place ∙ c.requires.ticket in
    absurd (cc)

pub returns-in-Ok-clause-held : goal.returns-in-Ok-clause-held
returns-in-Ok-clause-held c = λ v.
    let place = rw c.deref.ensures.value at c.in-Ok.ensures in
    let x = c.index_mut-slot.result.now in
    filled_held c.args.slots.now.items c.args.id c.in-Ok.at c.requires.rising place.0 place.1 (record { id = x.id; version = Some c.args.version }) c.args.version refl c.requires.ticket v

pub returns-in_default-clause-held : goal.returns-in_default-clause-held
returns-in_default-clause-held c =
    let place = rw c.deref.ensures.value at c.in_default.ensures in
    let none = no_slot c.args.slots.now.items c.args.id c.in_default.field-0 place ∙ c.requires.ticket in
    absurd (cc)
