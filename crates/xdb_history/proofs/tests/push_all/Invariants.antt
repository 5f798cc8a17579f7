use Rattle.std.proofs.Common.{◌≡◌}
use Rattle.xdb_plain.specs.State.{opening}
use Rattle.xdb_history.specs.Recorded.{state_of}
use Rattle.xdb_history.proofs.tests.push_all.Given as goal

abbrev pub invariant-loop : goal.invariant-loop
invariant-loop l = state_of l.history ≡ opening 1 1
