-- What is left to answer of `pick`.
use Rattle.std.proofs.Common.{◌≡◌, IsTrue, ◌++◌, length, vec_len, sym, ap, ◌∙◌, subst, arith}
use Rattle.std.proofs.lemmas.Bool.{eqb-true}
use Rattle.std.proofs.lemmas.List.{nil_from_length}
use Rattle.std.proofs.lemmas.List.Kept.{AllPairs-filter}
use Rattle.std.proofs.lemmas.Result.{on_ok_weaker}
use Rattle.std.specs.List.{filter}
use Rattle.xdb_key.specs.Bounds.{holds}
use Rattle.xdb_rangedel.specs.Members.{SameMembers}
use Rattle.xdb_mem.specs.InOrder.{comes_before, AreInOrder}
use Rattle.xdb_mem.specs.Parts.{picked}
use Rattle.xdb_mem.proofs.HeldLaws.{same_then}
use Rattle.xdb_mem.proofs.PutLaws.{same_behind}
use Rattle.xdb_mem.proofs.PickLaws.{is_under, picked-same, found-numbered}
use Rattle.xdb_mem.proofs.parts.pick.Goals as goal

pub put_below-requires-clause-numbers : goal.put_below-requires-clause-numbers
put_below-requires-clause-numbers c = found-numbered c.args.range.now c.args.out.now.items c.entries.result.now c.in_range-found.result.now c.args.mem.now c.entries.ensures.members c.in_range-found.ensures c.requires.numbers

pub returns-then-is_empty-clause-order : goal.returns-then-is_empty-clause-order
returns-then-is_empty-clause-order c =
    let zero_long : length c.args.out.now.items ≡ 0 = omega (arith, c.args.out.now.ok.0, eqb-true (vec_len c.args.out.now) 0 (sym c.is_empty.ensures ∙ c.if-is_empty.true)) in
    let none = nil_from_length c.args.out.now.items zero_long in
    let found = subst AreInOrder (sym c.in_range-found.ensures) (AllPairs-filter (λ p q. IsTrue (comes_before p q)) (λ p. holds c.args.range.now p.key) c.entries.result.now c.entries.ensures.order) in
    on_ok_weaker c.add_below.result (λ h. subst AreInOrder (sym (h ∙ ap (λ xs. xs ++ filter (is_under c.args.below) c.in_range-found.result.now) none)) (AllPairs-filter (λ p q. IsTrue (comes_before p q)) (is_under c.args.below) c.in_range-found.result.now found)) c.add_below.ensures

pub returns-then-is_empty-clause-members : goal.returns-then-is_empty-clause-members
returns-then-is_empty-clause-members c =
    let old = c.args.out.now.items in
    let found = filter (is_under c.args.below) c.in_range-found.result.now in
    let all = picked c.args.range.now c.args.below c.args.mem.now in
    let same = picked-same c.args.range.now c.args.below c.entries.result.now c.in_range-found.result.now c.args.mem.now c.entries.ensures.members c.in_range-found.ensures in
    on_ok_weaker c.add_below.result (λ h. subst (λ xs. SameMembers xs (old ++ all)) (sym h) (same_behind old found all same)) c.add_below.ensures

pub returns-else-is_empty-clause-members : goal.returns-else-is_empty-clause-members
returns-else-is_empty-clause-members c =
    let old = c.args.out.now.items in
    let found = filter (is_under c.args.below) c.in_range-found.result.now in
    let all = picked c.args.range.now c.args.below c.args.mem.now in
    let same = picked-same c.args.range.now c.args.below c.entries.result.now c.in_range-found.result.now c.args.mem.now c.entries.ensures.members c.in_range-found.ensures in
    on_ok_weaker c.put_below.result (λ h. same_then c.put_below.new.out.items (old ++ found) (old ++ all) h (same_behind old found all same)) c.put_below.ensures.members
