-- What is left to answer of `add_below`.
use Rattle.std.proofs.Common.{◌++◌, sym, ap, ◌∙◌}
use Rattle.std.proofs.lemmas.List.{take_all}
use Rattle.std.specs.List.{filter}
use Rattle.xdb_mem.proofs.PickLaws.{is_under, add_one, leave_one}
use Rattle.xdb_mem.proofs.parts.add_below.Goals as goal
use Rattle.xdb_mem.proofs.parts.add_below.Goals.{then-is_under+in_ok-copy+in_ok-push, else-is_under}

pub loop-entry-preserved : goal.loop-entry-preserved
loop-entry-preserved c =
    let old = c.args.out.now.items in
    let es = c.args.entries.now in
    let x = c.entry-item.result in
    elim c.if-is_under.branch [
      | then-is_under+in_ok-copy+in_ok-push w ↦
          let small = sym c.is_under.ensures ∙ w.if-is_under.true in
          ap (λ v. v.items) w.out-is ∙ add_one old es c.loop-entry.out.items w.push.new.self.items c.args.below c.loop-entry.entry-index x w.in_ok-copy.field-0 c.loop-entry-test.true c.entry-item.is w.in_ok-copy.ensures small c.loop-entry.invariant w.in_ok-push.ensures.items
      | else-is_under w ↦
          let large = sym c.is_under.ensures ∙ w.if-is_under.false in
          ap (λ v. v.items) w.out-is ∙ leave_one old es c.loop-entry.out.items c.args.below c.loop-entry.entry-index x c.loop-entry-test.true c.entry-item.is large c.loop-entry.invariant
    ]

pub returns : goal.returns
returns c = c.loop-entry.invariant ∙ ap (λ xs. c.args.out.now.items ++ filter (is_under c.args.below) xs) (take_all c.loop-entry.entry-index c.args.entries.now c.loop-entry-test.false)
