use Rattle.std.proofs.Common.{◌≡◌}
use Rattle.xdb_gen.specs.Generated.{progress}
use Rattle.xdb_gen.proofs.generate.Given as goal

-- what so many operations say has been said
abbrev pub invariant-loop-said : goal.invariant-loop-said
invariant-loop-said l = l.draft ≡ progress l.said l.fn.seed
