-- What is left to answer of `clip`.
use Rattle.std.proofs.Common.{◌++◌, subst}
use Rattle.std.proofs.lemmas.Result.{on_ok_weaker}
use Rattle.std.specs.List.{filter_map}
use Rattle.xdb_rangedel.specs.Members.{SameMembers}
use Rattle.xdb_mem.specs.Blocks.{spans_of}
use Rattle.xdb_mem.specs.Parts.{part_below}
use Rattle.xdb_mem.proofs.BlockLaws.{clipped_all}
use Rattle.xdb_mem.proofs.span_list.SpanList.clip.Goals as goal

pub returns-clause-parts : goal.returns-clause-parts
returns-clause-parts c =
    let ts = c.self.inside.list.items in
    let bs = c.self.inside.index.items in
    let old = c.args.out.now.items in
    let out = c.clip.new.out.items in
    let f = part_below c.args.range.now c.args.below in
    on_ok_weaker c.clip.result (λ h.
    let found = subst (λ xs. SameMembers out (old ++ filter_map f xs)) (λ i. spans_of (c.deref-2.ensures.value i) (c.deref.ensures.value i)) h in
    subst (λ xs. SameMembers out (old ++ filter_map f xs)) c.self.view_is (clipped_all ts bs c.args.range.now c.args.below old out c.self.invariant found)) c.clip.ensures.parts
