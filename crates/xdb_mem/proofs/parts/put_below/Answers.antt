-- What is left to answer of `put_below`.
use Rattle.std.proofs.Common.{◌+◌, ◌++◌, take, sym, ap, ◌∙◌, subst}
use Rattle.std.proofs.lemmas.List.{take_all}
use Rattle.std.specs.List.{filter}
use Rattle.xdb_rangedel.specs.Members.{SameMembers}
use Rattle.xdb_mem.specs.InOrder.{AreInOrder}
use Rattle.xdb_mem.proofs.PickLaws.{is_under, put_one, pass_one}
use Rattle.xdb_mem.proofs.parts.put_below.Goals as goal
use Rattle.xdb_mem.proofs.parts.put_below.Goals.{then-is_under+in_ok-copy+in_ok-put, else-is_under}

pub loop-entry-preserved : goal.loop-entry-preserved
loop-entry-preserved c =
    let old = c.args.out.now.items in
    let es = c.args.entries.now in
    let x = c.entry-item.result in
    elim c.if-is_under.branch [
      | then-is_under+in_ok-copy+in_ok-put w ↦
          let is = ap (λ v. v.items) w.out-is in
          let small = sym c.is_under.ensures ∙ w.if-is_under.true in
          let members = put_one old es c.loop-entry.out.items w.put.new.entries.items c.args.below c.loop-entry.entry-index x w.in_ok-copy.field-0 c.loop-entry-test.true c.entry-item.is w.in_ok-copy.ensures small c.requires.numbers c.loop-entry.invariant.members w.in_ok-put.ensures.members in
          record {
            order = subst AreInOrder (sym is) w.put.ensures.order;
            members = subst (λ xs. SameMembers xs (old ++ filter (is_under c.args.below) (take (c.loop-entry.entry-index + 1) es))) (sym is) members;
          }
      | else-is_under w ↦
          let is = ap (λ v. v.items) w.out-is in
          let large = sym c.is_under.ensures ∙ w.if-is_under.false in
          let members = pass_one old es c.loop-entry.out.items c.args.below c.loop-entry.entry-index x c.loop-entry-test.true c.entry-item.is large c.loop-entry.invariant.members in
          record {
            order = subst AreInOrder (sym is) c.loop-entry.invariant.order;
            members = subst (λ xs. SameMembers xs (old ++ filter (is_under c.args.below) (take (c.loop-entry.entry-index + 1) es))) (sym is) members;
          }
    ]

pub returns-clause-members : goal.returns-clause-members
returns-clause-members c =
    rw (take_all c.loop-entry.entry-index c.args.entries.now c.loop-entry-test.false) at c.loop-entry.invariant.members
