use Rattle.std.proofs.Common.{◌≡◌, ◌∙◌, List, sym, subst}
use Rattle.xdb_key.specs.Entries.{Point, Tombstone}
use Rattle.xdb_key.specs.Order.{is_below}
use Rattle.xdb_rangedel.specs.Members.{SameMembers}
use Rattle.xdb_table_r.specs.Reaches.{reaches, IsExtentOf}
use Rattle.xdb_table_r.specs.Views.{range_of, spans_in}
use Rattle.xdb_table_r.proofs.ClipLaws.{extent_within, told_reach}
use Rattle.xdb_table_r.proofs.view.extent_in.Goals as goal

pub returns-clause-within : goal.returns-clause-within
returns-clause-within g c =
    let w = c.args.window.now in
    let made = subst (λ (ts : List Tombstone). SameMembers c.in_ok-spans.spans (spans_in (range_of w) w.synthetic ts)) c.spans.ensures c.in_ok-spans.ensures in
    let first = subst (λ (ps : List Point). IsExtentOf (reaches ps c.list.result.now) c.in_ok-all.all) c.deref.ensures.value c.in_ok-all.ensures in
    let all = subst (λ (ts : List Tombstone). IsExtentOf (reaches c.in_ok-points.points.items ts) c.in_ok-all.all) c.list.ensures.list first in
    extent_within (range_of w) w.synthetic c.in_ok-points.points.items c.args.table.now.spans c.in_ok-spans.spans c.in_ok-all.all c.in_ok-points.ensures.seen made all

pub returns-clause-tells : goal.returns-clause-tells
returns-clause-tells g c =
    let w = c.args.window.now in
    let made = subst (λ (ts : List Tombstone). SameMembers c.in_ok-spans.spans (spans_in (range_of w) w.synthetic ts)) c.spans.ensures c.in_ok-spans.ensures in
    let first = subst (λ (ps : List Point). IsExtentOf (reaches ps c.list.result.now) c.in_ok-all.all) c.deref.ensures.value c.in_ok-all.ensures in
    let all = subst (λ (ts : List Tombstone). IsExtentOf (reaches c.in_ok-points.points.items ts) c.in_ok-all.all) c.list.ensures.list first in
    let some : is_below c.bytes.result.now c.bytes-2.result.now ≡ is_below w.lo w.hi = λ i. is_below (c.bytes.ensures.bytes i) (c.bytes-2.ensures.bytes i) in
    told_reach (g.F.FileRef.bytes c.args.table.now.file) (range_of w) w.synthetic c.args.table.now.index c.in_ok-points.points.items c.args.table.now.spans c.in_ok-spans.spans c.in_ok-all.all
    (sym some ∙ sym c.is_below.ensures ∙ c.if-not-is_below.false) c.in_ok-points.ensures.tells made all
