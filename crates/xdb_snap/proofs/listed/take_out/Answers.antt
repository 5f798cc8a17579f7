-- The one at the place is the one of the name.
use Rattle.std.proofs.Common.{sym, ap, ◌∙◌}
use Rattle.std.specs.List.{position}
use Rattle.xdb_snap.specs.Listed.{has_name}
use Rattle.xdb_snap.proofs.ListedLaws.{place-found, place-removed, no_place-found, no_place-removed}
use Rattle.xdb_snap.proofs.listed.take_out.Goals as goal

pub returns-in_err-at-clause-removed : goal.returns-in_err-at-clause-removed
returns-in_err-at-clause-removed g c =
    let place = sym (c.place.ensures ∙ ap (position (has_name c.args.name.now)) c.deref.ensures.value) ∙ c.in_err-at.was in
    c.from_residual.ensures ∙ sym (no_place-found c.args.name.now c.args.snaps.now.items place)

pub returns-in_err-at-clause-rest : goal.returns-in_err-at-clause-rest
returns-in_err-at-clause-rest g c =
    let place = sym (c.place.ensures ∙ ap (position (has_name c.args.name.now)) c.deref.ensures.value) ∙ c.in_err-at.was in
    no_place-removed c.args.name.now c.args.snaps.now.items place

pub returns-clause-removed : goal.returns-clause-removed
returns-clause-removed g c =
    let place = sym (c.place.ensures ∙ ap (position (has_name c.args.name.now)) c.deref.ensures.value) ∙ c.in_ok-at.was in
    sym (place-found c.args.name.now c.args.snaps.now.items c.in_ok-at.at c.remove.result c.requires place c.remove.ensures.value)

pub returns-clause-rest : goal.returns-clause-rest
returns-clause-rest g c =
    let place = sym (c.place.ensures ∙ ap (position (has_name c.args.name.now)) c.deref.ensures.value) ∙ c.in_ok-at.was in
    c.remove.ensures.items ∙ place-removed c.args.name.now c.args.snaps.now.items c.in_ok-at.at c.remove.result c.requires place c.remove.ensures.value
