-- What is left to answer of `output_len`.
use Rattle.std.proofs.Common.{inl, inr, arith}
use Rattle.xdb_build.proofs.CutLaws.{fills_more, ends_here, ends_all, order_of_taken}
use Rattle.xdb_build.proofs.cuts.output_len.Goals.{else-total-ge-FULL-via-then-total-ge-FULL+else-not-has_last_key, else-total-ge-FULL-via-else-total-ge-FULL}
use Rattle.xdb_build.proofs.cuts.output_len.Goals as goal

pub returns-then-not-has_last_key : goal.returns-then-not-has_last_key
returns-then-not-has_last_key c =
    ends_here c.args.entries.now c.loop-at.at c.loop-at.total c.index-entries-at.result c.loop-at-test.true c.index-entries-at.is c.loop-at.invariant c.if-total-ge-FULL.true
    (c.has_last_key.ensures.no c.if-not-has_last_key.true (order_of_taken c.args.entries.now c.loop-at.at c.index-entries-at.result c.requires c.loop-at-test.true c.index-entries-at.is))

pub loop-at-preserved : goal.loop-at-preserved
loop-at-preserved c =
    fills_more c.args.entries.now c.loop-at.at c.loop-at.total c.heavier-total.result c.index-entries-at.result c.requires c.loop-at-test.true c.index-entries-at.is c.loop-at.invariant
    (elim c.else-total-ge-FULL.branch [
      | else-total-ge-FULL-via-then-total-ge-FULL+else-not-has_last_key w ↦ inr (w.has_last_key.ensures.yes w.if-not-has_last_key.false)
      | else-total-ge-FULL-via-else-total-ge-FULL w ↦ inl w.if-total-ge-FULL.false
    ])
    c.heavier-total.ensures

pub returns : goal.returns
returns c = ends_all c.args.entries.now c.loop-at.at c.loop-at.total (omega (arith, c.loop-at.auto.at-end, c.loop-at-test.false)) c.loop-at.invariant
