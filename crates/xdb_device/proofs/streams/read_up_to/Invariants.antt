use Rattle.std.proofs.Common.{◌-◌, ◌≡◌, ◌≤◌}
use Rattle.std.specs.Io.KnownBytes.{prepend_known}
use Rattle.xdb_device.specs.Streams.{Grew}
use Rattle.xdb_device.proofs.streams.read_up_to.Given as goal

abbrev pub invariant-loop-taken : goal.invariant-loop-taken
invariant-loop-taken g l =
    (g.S.Source.faults l.source ≡ g.S.Source.faults l.initial.source)
    × (l.taken ≤ l.most)
    × Grew l.taken l.initial.out.items l.out.items
    × (prepend_known l.out.items (g.S.Source.left l.source) ≡ prepend_known l.initial.out.items (g.S.Source.left l.initial.source))

abbrev pub decreases-loop-taken : goal.decreases-loop-taken
decreases-loop-taken g l = l.most - l.taken
