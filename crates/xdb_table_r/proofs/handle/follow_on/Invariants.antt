use Rattle.std.proofs.Common.{◌≡◌, ◌≤◌, drop}
use Rattle.xdb_table_r.specs.Parts.{follow_on}
use Rattle.xdb_table_r.proofs.handle.follow_on.Given as goal

abbrev pub invariant-loop-i : goal.invariant-loop-i
invariant-loop-i l = (l.at ≤ l.end) × (follow_on 0 l.end l.index ≡ follow_on l.at l.end (drop l.i l.index))
