use Rattle.std.proofs.Common.{length, ◌-◌, ◌≡◌, ◌≤◌, take}
use Rattle.std.specs.Io.KnownBytes.{append_known}
use Rattle.xdb_device.proofs.streams.write_all.Given as goal

abbrev pub invariant-loop-count : goal.invariant-loop-count
invariant-loop-count g l =
    (g.K.Sink.faults l.sink ≡ g.K.Sink.faults l.initial.sink)
    × (l.count ≤ length l.bytes)
    × (g.K.Sink.written l.sink ≡ append_known (g.K.Sink.written l.initial.sink) (take l.count l.bytes))

abbrev pub decreases-loop-count : goal.decreases-loop-count
decreases-loop-count g l = length l.bytes - l.count
