-- The one at the place is the one of the name, and it has its ticket.
use Rattle.std.proofs.Common.{slice_set, sym, ap, ◌∙◌}
use Rattle.std.specs.List.{position}
use Rattle.xdb_snap.specs.Changes.{ticket_of, without_ticket}
use Rattle.xdb_snap.specs.Listed.{has_name, named}
use Rattle.xdb_snap.proofs.ListedLaws.{place-found, place-changed, no_place-found, gives-none, ticket-there}
use Rattle.xdb_snap.proofs.listed.take_ticket.Goals as goal

pub unreachable-requires : goal.unreachable-requires
unreachable-requires g c =
    let items = c.args.snaps.now.items in
    let place = sym (c.place.ensures ∙ ap (position (has_name c.args.name.now)) c.deref.ensures.value) ∙ c.in_default.is in
    gives-none (named c.args.name.now items) (no_place-found c.args.name.now items place) c.requires.there

pub unreachable-requires-in_default-take : goal.unreachable-requires-in_default-take
unreachable-requires-in_default-take g c =
    let items = c.args.snaps.now.items in
    let s = c.index_mut-snap.result.now in
    let place = sym (c.place.ensures ∙ ap (position (has_name c.args.name.now)) c.deref.ensures.value) ∙ c.in-Some.is in
    let found = place-found c.args.name.now items c.in-Some.at s c.requires.listed place c.index_mut-snap.ensures.value in
    ticket-there (named c.args.name.now items) s found c.requires.there (sym c.take.ensures.value ∙ c.in_default-take.is)

pub returns-clause-ticket : goal.returns-clause-ticket
returns-clause-ticket g c =
    let items = c.args.snaps.now.items in
    let s = c.index_mut-snap.result.now in
    let place = sym (c.place.ensures ∙ ap (position (has_name c.args.name.now)) c.deref.ensures.value) ∙ c.in-Some.is in
    let found = place-found c.args.name.now items c.in-Some.at s c.requires.listed place c.index_mut-snap.ensures.value in
    sym c.in-Some-take.is ∙ c.take.ensures.value ∙ sym (ap ticket_of found)

pub returns-clause-rest : goal.returns-clause-rest
returns-clause-rest g c =
    let items = c.args.snaps.now.items in
    let s = c.index_mut-snap.result.now in
    let place = sym (c.place.ensures ∙ ap (position (has_name c.args.name.now)) c.deref.ensures.value) ∙ c.in-Some.is in
    ap (λ t. slice_set items c.in-Some.at (record s { ticket = t })) c.take.ensures.after
    ∙ place-changed without_ticket c.args.name.now items c.in-Some.at s c.requires.listed place c.index_mut-snap.ensures.value
