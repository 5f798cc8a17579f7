use Rattle.std.proofs.Common.{◌≡◌, length}
use Rattle.xdb_run.specs.Running.{StillTakesLines}
use Rattle.xdb_run.proofs.run.take_all.Given as goal

-- the lines so far have their blocks, and the device isn't used
abbrev pub invariant-loop-line : goal.invariant-loop-line
invariant-loop-line g l = StillTakesLines l.fn.script.items l.left.items l.engine × (l.dev ≡ l.initial.dev)

abbrev pub decreases-loop-line : goal.decreases-loop-line
decreases-loop-line g l = length l.left.items
