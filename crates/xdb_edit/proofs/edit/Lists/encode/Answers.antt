-- The three lists are written one behind the other, and read again.
use Rattle.std.proofs.Common.{◌∙◌, ap, subst, All, List, ℕ}
use Rattle.std.proofs.lemmas.List.Elements.{recursion_from_All}
use Rattle.xdb_meta.specs.Table.{Table, IsTable}
use Rattle.xdb_edit.specs.Changes.{Changes}
use Rattle.xdb_edit.specs.Records.{IsEdit}
use Rattle.xdb_edit.specs.Reading.{edit_at}
use Rattle.xdb_edit.proofs.EditLaws.{edit_again}
use Rattle.xdb_edit.proofs.WritingLaws.{removed_fit, new_backings_fit, written}
use Rattle.xdb_edit.proofs.edit.Lists.encode.Goals as goal

pub put_all_removed-requires : goal.put_all_removed-requires
put_all_removed-requires c =
    removed_fit c.args.self.now _ (c.deref.ensures.value ∙ ap (λ (e : Changes). e.removed) c.self.view_is) c.requires.ranges

pub put_all_new_backings-requires : goal.put_all_new_backings-requires
put_all_new_backings-requires c =
    new_backings_fit c.args.self.now _ (c.deref-2.ensures.value ∙ ap (λ (e : Changes). e.new_backings) c.self.view_is) c.requires.ranges

pub returns : goal.returns
returns c =
    let added = c.deref-3.ensures.value ∙ ap (λ (e : Changes). e.added) c.self.view_is in
    let bytes = written c.args.self.now _ _ _ c.new-out.result.items _ _ _ (c.deref.ensures.value ∙ ap (λ (e : Changes). e.removed) c.self.view_is)
    (c.deref-2.ensures.value ∙ ap (λ (e : Changes). e.new_backings) c.self.view_is) added
    c.new-out.ensures.items c.in_ok-put_all_removed.ensures c.in_ok-put_all_new_backings.ensures c.in_ok-put_all_added.ensures.written in
    let tables : All (λ (p : ℕ × Table). IsTable p.1) c.args.self.now.added = subst (λ (xs : List (ℕ × Table)). All (λ p. IsTable p.1) xs) added c.in_ok-put_all_added.ensures.tables in
    let is : IsEdit c.args.self.now = record { order = c.requires.order; ranges = c.requires.ranges; tables = recursion_from_All (λ (p : ℕ × Table). IsTable p.1) c.args.self.now.added tables } in
    record { spelled = bytes; again = ap edit_at bytes ∙ edit_again c.args.self.now is }
