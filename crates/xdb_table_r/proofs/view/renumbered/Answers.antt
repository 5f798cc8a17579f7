use Rattle.std.proofs.Common.{◌≡◌, ◌∙◌, List, map, ap, subst}
use Rattle.xdb_key.specs.Entries.{Tombstone}
use Rattle.xdb_rangedel.specs.Members.{SameMembers}
use Rattle.xdb_rangedel.specs.Pieces.{pieces}
use Rattle.xdb_table_r.specs.Views.{span_for}
use Rattle.xdb_table_r.proofs.ClipLaws.{renumbered_pieces}
use Rattle.xdb_table_r.proofs.view.renumbered.Goals as goal

pub returns : goal.returns
returns c =
    let s = c.args.synthetic in
    let list_is : c.deref.result.now ≡ map (span_for s) c.args.spans.now = c.deref.ensures.value ∙ c.in_ok-list.ensures ∙ ap (map (span_for s)) c.list.ensures.list in
    subst (λ (ts : List Tombstone). SameMembers c.in_ok-made.made ts) (ap pieces list_is ∙ renumbered_pieces s c.args.spans.now c.list.ensures.fragments) c.in_ok-made.ensures.pieces
