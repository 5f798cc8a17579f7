-- What is left to answer of `skip`.
use Rattle.std.proofs.Common.{arith}
use Rattle.xdb_mem.proofs.BlockLaws.{apart_then}
use Rattle.xdb_mem.proofs.index.skip.Goals as goal

pub loop-from-preserved : goal.loop-from-preserved
loop-from-preserved c =
    let kept = c.loop-from.invariant in
    record {
      bound = omega (arith, kept.bound, c.in-Some.ensures.before);
      apart = apart_then c.args.spans.now c.args.blocks.now c.args.range.now c.in-Some.from c.loop-from.left c.args.end c.in-Some.ensures.apart kept.apart;
    }
