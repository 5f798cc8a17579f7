-- What is left to answer of `parts`.
use Rattle.std.proofs.Common.{◌≡◌, ◌+◌, ◌^◌, ◌++◌, sym, ap, ◌∙◌, subst, arith, IfOk}
use Rattle.std.proofs.lemmas.Result.{IfOk-weaker}
use Rattle.xdb_rangedel.specs.Members.{SameMembers}
use Rattle.xdb_rangedel.specs.Pieces.{pieces}
use Rattle.xdb_mem.specs.Queue.{groups, all_ops}
use Rattle.xdb_mem.specs.KeptQueue.{joined}
use Rattle.xdb_mem.specs.Parts.{picked, clipped}
use Rattle.xdb_mem.proofs.NumberLaws.{rises-wider}
use Rattle.xdb_mem.proofs.HeldLaws.{same_then}
use Rattle.xdb_mem.proofs.PieceLaws.{pieces_same}
use Rattle.xdb_mem.proofs.QueueLaws.{all_ops-queue_of}
use Rattle.xdb_mem.proofs.ContentLaws.{both-ok, parts-content}
use Rattle.xdb_mem.proofs.queue.MemQueue.parts.Goals as goal
use Rattle.xdb_mem.proofs.queue.MemQueue.parts.Goals.{After-drop-spans}

pub picked-requires : goal.picked-requires
picked-requires c =
    let ms = c.self.inside.sealed.items in
    let a = c.self.inside.active in
    rw c.deref.ensures.value (rises-wider 1 (c.self.inside.greatest + 1) (2 ^ 56) (joined ms ++ a) (omega (arith, c.self.invariant.small)) c.self.invariant.rising)

entries_known : (c : After-drop-spans) → IfOk c.new.result (λ parts. SameMembers parts.entries (picked c.args.range.now c.args.below (all_ops (groups c.args.self.now))))
entries_known c =
    let a = c.self.inside.active in
    let same : joined c.deref.result.now ++ a ≡ all_ops (groups c.args.self.now) =
    ap (λ ms. joined ms ++ a) c.deref.ensures.value ∙ sym (all_ops-queue_of c.self.inside.oldest c.self.inside.sealed.items a c.self.inside.greatest) ∙ ap (λ q. all_ops (groups q)) c.self.view_is in
    let all = picked c.args.range.now c.args.below (all_ops (groups c.args.self.now)) in
    let found = subst (λ os. SameMembers c.in_ok-entries.entries.items (picked c.args.range.now c.args.below os)) same c.in_ok-entries.ensures.members in
    IfOk-weaker c.new.result (λ parts. parts.entries ≡ c.in_ok-entries.entries.items) (λ parts. SameMembers parts.entries all) (λ parts e. subst (λ xs. SameMembers xs all) (sym e) found) c.new.ensures.entries

spans_known : (c : After-drop-spans) → IfOk c.new.result (λ parts. SameMembers parts.spans (pieces (clipped c.args.range.now c.args.below (all_ops (groups c.args.self.now)))))
spans_known c =
    let a = c.self.inside.active in
    let same : joined c.deref-2.result.now ++ a ≡ all_ops (groups c.args.self.now) =
    ap (λ ms. joined ms ++ a) c.deref-2.ensures.value ∙ sym (all_ops-queue_of c.self.inside.oldest c.self.inside.sealed.items a c.self.inside.greatest) ∙ ap (λ q. all_ops (groups q)) c.self.view_is in
    let all = clipped c.args.range.now c.args.below (all_ops (groups c.args.self.now)) in
    let found = subst (λ os. SameMembers c.in_ok-spans.spans.items (clipped c.args.range.now c.args.below os)) same c.in_ok-spans.ensures.parts in
    let cut = pieces_same c.in_ok-spans.spans.items all found c.in_ok-spans.ensures.ordered in
    IfOk-weaker c.new.result (λ parts. SameMembers parts.spans (pieces c.deref-3.result.now)) (λ parts. SameMembers parts.spans (pieces all))
    (λ parts h. same_then parts.spans (pieces c.in_ok-spans.spans.items) (pieces all) (subst (λ ts. SameMembers parts.spans (pieces ts)) c.deref-3.ensures.value h) cut) c.new.ensures.spans

pub returns-clause-entries : goal.returns-clause-entries
returns-clause-entries c = entries_known c

pub returns-clause-spans : goal.returns-clause-spans
returns-clause-spans c = spans_known c

pub returns-clause-content : goal.returns-clause-content
returns-clause-content c =
    let range = c.args.range.now in
    let ops = all_ops (groups c.args.self.now) in
    both-ok c.new.result (λ parts entries tombstones. parts-content range c.args.below ops parts.entries parts.spans entries tombstones) (entries_known c) (spans_known c)
