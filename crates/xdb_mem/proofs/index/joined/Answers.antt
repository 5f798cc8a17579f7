-- What is left to answer of `joined`.
use Rattle.xdb_key.proofs.OrderLaws.{upto_trans}
use Rattle.xdb_mem.specs.Blocks.{span_at}
use Rattle.xdb_mem.proofs.index.joined.Goals as goal

pub returns-clause-before : goal.returns-clause-before
returns-clause-before c = λ p l.
    let ts = c.args.spans.now in
    let b = c.args.before.now in
    record {
      start = upto_trans (span_at ts c.earlier_start.result).range.lo (span_at ts b.first).range.lo (span_at ts p).range.lo c.earlier_start.ensures.a l.start;
      end = upto_trans (span_at ts p).range.hi (span_at ts b.last).range.hi (span_at ts c.later_end.result).range.hi l.end c.later_end.ensures.a;
    }

pub returns-clause-block : goal.returns-clause-block
returns-clause-block c = λ p l.
    let ts = c.args.spans.now in
    let b = c.args.block.now in
    record {
      start = upto_trans (span_at ts c.earlier_start.result).range.lo (span_at ts b.first).range.lo (span_at ts p).range.lo c.earlier_start.ensures.b l.start;
      end = upto_trans (span_at ts p).range.hi (span_at ts b.last).range.hi (span_at ts c.later_end.result).range.hi l.end c.later_end.ensures.b;
    }
