use Rattle.std.proofs.Common.{arith, ◌∙◌}
use Rattle.xdb_device.proofs.Counts.{Counted-then, Counted-where}
use Rattle.xdb_device.proofs.Pieces.{Grew-then, AddsFrom-then}
use Rattle.xdb_device.proofs.whole.read_whole.Goals as goal

pub loop-off-preserved : goal.loop-off-preserved
loop-off-preserved g c = (
  omega arith,
  Counted-where _ _ (λ never. absurd never) (Counted-then _ _ _ c.loop-off.invariant.1 c.read_at.ensures.counted),
  c.read_at.ensures.told ∙ c.loop-off.invariant.2,
  Grew-then _ _ _ _ _ c.loop-off.invariant.3 c.in-Ok.ensures.grew,
  AddsFrom-then _ 0 c.loop-off.off c.loop-off.off c.min-len.result _ _ _ (omega arith) c.loop-off.invariant.4 c.in-Ok.ensures.read,
)
