-- What is left to answer of `meets`.
use Rattle.std.proofs.Common.{ap, ◌∙◌}
use Rattle.std.specs.List.{list_any}
use Rattle.xdb_mem.specs.Blocks.{spans_of}
use Rattle.xdb_mem.proofs.BlockLaws.{all_spans}
use Rattle.xdb_mem.proofs.TouchLaws.{any-same}
use Rattle.xdb_mem.proofs.WalkLaws.{is_met}
use Rattle.xdb_mem.proofs.span_list.SpanList.meets.Goals as goal

pub returns : goal.returns
returns c =
    let ts = c.self.inside.list.items in
    let bs = c.self.inside.index.items in
    let met = is_met c.args.range.now c.args.below in
    c.meets.ensures ∙ (λ i. list_any met (spans_of (c.deref-2.ensures.value i) (c.deref.ensures.value i))) ∙ any-same met (spans_of ts bs) ts (all_spans ts bs c.self.invariant) ∙ ap (list_any met) c.self.view_is
