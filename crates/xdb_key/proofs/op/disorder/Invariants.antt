use Rattle.std.proofs.Common.{◌≡◌, drop}
use Rattle.std.specs.Option.{option_copied}
use Rattle.xdb_key.specs.Ops.{disorder_after, disorder}
use Rattle.xdb_key.proofs.op.disorder.Given as goal

-- the rest has the disorder that the whole has
abbrev pub invariant-loop-at : goal.invariant-loop-at
invariant-loop-at l = disorder_after (option_copied l.last) l.at (drop l.at l.ops) ≡ disorder l.ops
