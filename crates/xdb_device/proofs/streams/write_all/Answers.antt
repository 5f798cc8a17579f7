use Rattle.std.proofs.Common.{arith, ◌∙◌}
use Rattle.xdb_device.proofs.Pushes.{written-then}
use Rattle.xdb_device.proofs.streams.write_all.Goals as goal

pub loop-count-preserved : goal.loop-count-preserved
loop-count-preserved g c = (
  c.in-Ok.ensures.still ∙ c.loop-count.invariant.0,
  omega (arith, c.in-Ok.ensures.count),
  written-then c.args.bytes.now c.loop-count.count c.in-Ok.n _ _ _ c.loop-count.invariant.2 c.in-Ok.ensures.appended,
)
