-- What is left to answer of `extend`.
use Rattle.std.proofs.Common.{◌<◌, ◌++◌, length, drop, take, sym, ap, ◌∙◌, subst}
use Rattle.std.proofs.lemmas.List.{take_rest}
use Rattle.std.specs.List.{All}
use Rattle.xdb_rangedel.specs.Members.{Has, SameMembers}
use Rattle.xdb_rangedel.proofs.StripLaws.{same_after_sort}
use Rattle.xdb_mem.specs.Blocks.{places_of}
use Rattle.xdb_mem.proofs.BlockLaws.{last_places, all_through, grown_all, grown_index}
use Rattle.xdb_mem.proofs.index.extend.Goals as goal

pub push_all-requires-clause-inside : goal.push_all-requires-clause-inside
push_all-requires-clause-inside c =
    let ts = c.args.spans.now in
    let bs = c.args.blocks.now.items in
    let kept = c.run_end-kept.result in
    let all = c.add_places.new.out.items in
    let runs = c.in_ok-places.ensures ∙ ap places_of (take_rest c.deref-2.result.now kept ∙ ap (drop kept) c.deref-2.ensures.value) in
    let sorted = subst (λ xs. SameMembers xs all) (sym c.deref-3.ensures.value) (same_after_sort all c.sort_by.new.self.items c.sort_by.ensures.permutation) in
    let old = subst (All (λ p. p < length ts)) (sym runs) (last_places ts kept bs (grown_all ts c.args.first bs c.requires.index)) in
    all_through (length ts) all c.deref-3.result.now sorted (c.in_ok-add_places.ensures.inside old)

pub returns-clause-index : goal.returns-clause-index
returns-clause-index c =
    let ts = c.args.spans.now in
    let bs = c.args.blocks.now.items in
    let kept = c.run_end-kept.result in
    let all = c.add_places.new.out.items in
    let runs = c.in_ok-places.ensures ∙ ap places_of (take_rest c.deref-2.result.now kept ∙ ap (drop kept) c.deref-2.ensures.value) in
    let sorted = subst (λ xs. SameMembers xs all) (sym c.deref-3.ensures.value) (same_after_sort all c.sort_by.new.self.items c.sort_by.ensures.permutation) in
    let made = c.push_all.ensures.places ∙ ap (λ xs. places_of xs ++ c.deref-3.result.now) (c.truncate.ensures.items ∙ ap (take kept) c.try_reserve.ensures.items) in
    grown_index ts c.args.first bs c.push_all.new.blocks.items kept c.deref-3.result.now
    (record {
      index = c.requires.index;
      bound = c.requires.bound;
      old = λ p h. (sorted p).1 (c.in_ok-add_places.ensures.kept p (subst (λ xs. Has xs p) (sym runs) h));
      new = λ p low high. (sorted p).1 (c.in_ok-add_places.ensures.added p low high);
    }) c.push_all.ensures.blocks made
