-- What the loop of `lay_gap` keeps.
use Rattle.std.proofs.Common.{◌≡◌, ◌++◌, take}
use Rattle.xdb_rangedel.specs.Sweep.{over_gap}
use Rattle.xdb_rangedel.proofs.sweep.lay_gap.Given as goal

abbrev pub invariant-loop-seq : goal.invariant-loop-seq
invariant-loop-seq l = l.out.items ≡ l.initial.out.items ++ over_gap l.lo l.hi (take l.seq-index l.seq-items)
