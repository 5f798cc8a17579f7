use Rattle.std.proofs.Common.{◌≡◌, vec_len}
use Rattle.excisedb.proofs.tests.devices.Given as goal

-- one device for each turn so far
abbrev pub invariant-loop-dev : goal.invariant-loop-dev
invariant-loop-dev l = vec_len l.devs ≡ l._dev
