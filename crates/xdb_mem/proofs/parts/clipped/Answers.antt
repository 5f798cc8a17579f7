-- What is left to answer of `clipped`.
use Rattle.std.proofs.Common.{◌++◌, take, sym, subst}
use Rattle.std.proofs.lemmas.List.{take_all}
use Rattle.std.specs.List.{filter_map}
use Rattle.xdb_rangedel.specs.Members.{SameMembers}
use Rattle.xdb_mem.specs.KeptQueue.{joined}
use Rattle.xdb_mem.specs.Parts.{part_below, clipped}
use Rattle.xdb_mem.proofs.PieceLaws.{clipped_then}
use Rattle.xdb_mem.proofs.QueueLaws.{joined_more}
use Rattle.xdb_mem.proofs.parts.clipped.Goals as goal

pub loop-mem-preserved : goal.loop-mem-preserved
loop-mem-preserved c =
    let r = c.args.range.now in
    let ms = c.args.sealed.now in
    let i = c.loop-mem.mem-index in
    let m = c.mem-item.result in
    let found = subst (λ ts. SameMembers c.clip.new.out.items (c.loop-mem.out.items ++ filter_map (part_below r c.args.below) ts)) c.span_list.ensures c.in_ok-clip.ensures.parts in
    record {
      parts = subst (λ os. SameMembers c.clip.new.out.items (clipped r c.args.below os)) (sym (joined_more ms i m c.loop-mem-test.true c.mem-item.is))
          (clipped_then r c.args.below (joined (take i ms)) m c.loop-mem.out.items c.clip.new.out.items c.loop-mem.invariant.parts found);
      ordered = c.in_ok-clip.ensures.ordered c.loop-mem.invariant.ordered;
    }

pub returns-clause-parts : goal.returns-clause-parts
returns-clause-parts c =
    let r = c.args.range.now in
    let ms = c.args.sealed.now in
    let a = c.args.active.now in
    let i = c.loop-mem.mem-index in
    let found = subst (λ ts. SameMembers c.clip-2.new.out.items (c.loop-mem.out.items ++ filter_map (part_below r c.args.below) ts)) c.span_list-2.ensures c.in_ok-clip-2.ensures.parts in
    subst (λ xs. SameMembers c.clip-2.new.out.items (clipped r c.args.below (joined xs ++ a))) (take_all i ms c.loop-mem-test.false)
    (clipped_then r c.args.below (joined (take i ms)) a c.loop-mem.out.items c.clip-2.new.out.items c.loop-mem.invariant.parts found)

pub returns-clause-ordered : goal.returns-clause-ordered
returns-clause-ordered c = c.in_ok-clip-2.ensures.ordered c.loop-mem.invariant.ordered
