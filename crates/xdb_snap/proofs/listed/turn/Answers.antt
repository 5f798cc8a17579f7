-- The one at the place is the one of the name.
use Rattle.std.proofs.Common.{sym, ap, ◌∙◌}
use Rattle.std.specs.List.{position}
use Rattle.xdb_snap.specs.Changes.{turned}
use Rattle.xdb_snap.specs.Listed.{has_name, named}
use Rattle.xdb_snap.proofs.ListedLaws.{place-changed, no_place-found, turns-none}
use Rattle.xdb_snap.proofs.listed.turn.Goals as goal

pub unreachable-requires : goal.unreachable-requires
unreachable-requires g c =
    let items = c.args.snaps.now.items in
    let place = sym (c.place.ensures ∙ ap (position (has_name c.args.name.now)) c.deref.ensures.value) ∙ c.in_default.is in
    turns-none (named c.args.name.now items) (no_place-found c.args.name.now items place) c.requires.there

pub returns : goal.returns
returns g c =
    let items = c.args.snaps.now.items in
    let place = sym (c.place.ensures ∙ ap (position (has_name c.args.name.now)) c.deref.ensures.value) ∙ c.in-Some.is in
    place-changed (turned c.args.hold) c.args.name.now items c.in-Some.at c.index_mut-snap.result.now c.requires.listed place c.index_mut-snap.ensures.value
