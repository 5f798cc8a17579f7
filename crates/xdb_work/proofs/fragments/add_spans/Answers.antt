-- What is left to answer of `add_spans`.
use Rattle.std.proofs.Common.{◌^◌, ◌<◌, None, sym, ap, ◌∙◌, subst}
use Rattle.std.specs.List.{All}
use Rattle.xdb_rangedel.specs.Pieces.{AreFragments}
use Rattle.xdb_table_w.specs.Content.{span_row, last_of, lies_behind}
use Rattle.xdb_work.proofs.FragmentLaws.{fragment_behind, fragment_written}
use Rattle.xdb_work.proofs.fragments.add_spans.Goals as goal

pub add_span-requires : goal.add_span-requires
add_span-requires c =
    let fs = c.list-span-items.result.now in
    let same = sym c.list-span-items.ensures.list in
    let behind = fragment_behind fs c.loop-span.span-index c.span-item.result c.loop-span-test.true c.span-item.is (subst AreFragments same c.list-span-items.ensures.fragments) (subst (All (λ s. s.seq < 2 ^ 56)) same c.list-span-items.ensures.small) in
    record { order = ap (λ w. lies_behind (last_of None w.spans) (span_row c.span-item.result)) c.loop-span.invariant ∙ behind }

pub loop-span-preserved : goal.loop-span-preserved
loop-span-preserved c =
    fragment_written c.list-span-items.result.now c.loop-span.span-index c.span-item.result c.args.writer.now.points c.loop-span.writer _ c.loop-span-test.true c.span-item.is c.loop-span.invariant c.in_ok-add_span.ensures.added
