-- What is left to answer of `picked`.
use Rattle.std.proofs.Common.{◌≡◌, ◌+◌, ◌++◌, [], take, drop, sym, ap, ◌∙◌, subst}
use Rattle.std.proofs.lemmas.List.{take_all, append-nil}
use Rattle.xdb_rangedel.specs.Members.{SameMembers}
use Rattle.xdb_mem.specs.KeptQueue.{joined}
use Rattle.xdb_mem.specs.Parts.{picked}
use Rattle.xdb_mem.proofs.PickLaws.{picked_then, picked-numbered, joined-at}
use Rattle.xdb_mem.proofs.QueueLaws.{joined_more}
use Rattle.xdb_mem.proofs.parts.picked.Goals as goal

pub pick-requires-clause-numbers : goal.pick-requires-clause-numbers
pick-requires-clause-numbers c =
    let ms = c.args.sealed.now in
    let a = c.args.active.now in
    let i = c.loop-mem.mem-index in
    let m = c.mem-item.result in
    picked-numbered c.args.range.now c.args.below (joined ms ++ a) (joined (take i ms)) m (joined (drop (i + 1) ms) ++ a) c.loop-mem.out.items (joined-at ms a i m c.loop-mem-test.true c.mem-item.is) c.requires c.loop-mem.invariant.members

pub loop-mem-preserved : goal.loop-mem-preserved
loop-mem-preserved c =
    let ms = c.args.sealed.now in
    let i = c.loop-mem.mem-index in
    let m = c.mem-item.result in
    record {
      order = c.in_ok-pick.ensures.order;
      members = subst (λ os. SameMembers c.pick.new.out.items (picked c.args.range.now c.args.below os)) (sym (joined_more ms i m c.loop-mem-test.true c.mem-item.is))
          (picked_then c.args.range.now c.args.below (joined (take i ms)) m c.loop-mem.out.items c.pick.new.out.items c.loop-mem.invariant.members c.in_ok-pick.ensures.members);
    }

pub pick-requires-2-clause-numbers : goal.pick-requires-2-clause-numbers
pick-requires-2-clause-numbers c =
    let ms = c.args.sealed.now in
    let a = c.args.active.now in
    let i = c.loop-mem.mem-index in
    let all : joined ms ++ a ≡ (joined (take i ms) ++ a) ++ [] = ap (λ xs. joined xs ++ a) (sym (take_all i ms c.loop-mem-test.false)) ∙ sym (append-nil (joined (take i ms) ++ a)) in
    picked-numbered c.args.range.now c.args.below (joined ms ++ a) (joined (take i ms)) a [] c.loop-mem.out.items all c.requires c.loop-mem.invariant.members

pub returns-clause-members : goal.returns-clause-members
returns-clause-members c =
    let ms = c.args.sealed.now in
    let a = c.args.active.now in
    let i = c.loop-mem.mem-index in
    subst (λ xs. SameMembers c.pick-2.new.out.items (picked c.args.range.now c.args.below (joined xs ++ a))) (take_all i ms c.loop-mem-test.false)
    (picked_then c.args.range.now c.args.below (joined (take i ms)) a c.loop-mem.out.items c.pick-2.new.out.items c.loop-mem.invariant.members c.in_ok-pick-2.ensures.members)
