-- What is left to answer of `thin`.
use Rattle.std.proofs.Common.{IsTrue, sym, ◌∙◌, subst}
use Rattle.std.proofs.lemmas.List.Kept.{AllPairs-filter}
use Rattle.xdb_key.specs.InOrder.{comes_before, AreInOrder}
use Rattle.xdb_rangedel.specs.Members.{SameMembers}
use Rattle.xdb_rangedel.specs.Content.{content_of}
use Rattle.xdb_stripes.specs.Thinned.{thinned, staying_entries}
use Rattle.xdb_stripes.specs.Steps.{is_kept_entry}
use Rattle.xdb_stripes.proofs.ThinLaws.{Asked, staying_entries-is, staying_spans-is, thinned-members}
use Rattle.xdb_stripes.proofs.thinning.thin.Goals as goal

pub returns-clause-entries : goal.returns-clause-entries
returns-clause-entries c =
    let asked : Asked c.args.spans.now c.args.floor.now c.in_ok-floor.floor = record { fragments = c.list-spans.ensures.fragments; answers = c.in_ok-floor.ensures } in
    c.in_ok-left.ensures ∙ staying_entries-is c.args.stripes.now c.args.floor.now c.in_ok-floor.floor c.args.entries.now c.args.spans.now asked

pub returns-clause-spans : goal.returns-clause-spans
returns-clause-spans c =
    let asked : Asked c.args.spans.now c.args.floor.now c.in_ok-floor.floor = record { fragments = c.list-spans.ensures.fragments; answers = c.in_ok-floor.ensures } in
    c.in_ok-over.ensures ∙ staying_spans-is c.args.stripes.now c.args.floor.now c.in_ok-floor.floor c.args.entries.now c.args.spans.now asked

pub returns-clause-content : goal.returns-clause-content
returns-clause-content c =
    let ss = c.args.stripes.now in
    let ps = c.args.entries.now in
    let ts = c.args.spans.now in
    let floor = c.args.floor.now in
    let asked : Asked ts floor c.in_ok-floor.floor = record { fragments = c.list-spans.ensures.fragments; answers = c.in_ok-floor.ensures } in
    let entries = c.in_ok-left.ensures ∙ staying_entries-is ss floor c.in_ok-floor.floor ps ts asked in
    let spans = c.in_ok-over.ensures ∙ staying_spans-is ss floor c.in_ok-floor.floor ps ts asked in
    subst (λ xs. SameMembers (content_of xs c.in_ok-over.over) (thinned (content_of ps ts) ss floor)) (sym entries)
    (subst (λ xs. SameMembers (content_of (staying_entries ps ts ss floor) xs) (thinned (content_of ps ts) ss floor)) (sym spans)
    (thinned-members ss floor ps ts c.list-spans.ensures.fragments))

pub returns-clause-order : goal.returns-clause-order
returns-clause-order c =
    subst AreInOrder (sym c.in_ok-left.ensures)
    (AllPairs-filter (λ p q. IsTrue (comes_before p q)) (is_kept_entry c.args.stripes.now c.in_ok-floor.floor c.args.entries.now c.args.spans.now) c.args.entries.now c.requires.order)
