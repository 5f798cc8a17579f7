use Rattle.std.proofs.Common.{◌≡◌, length}
use Rattle.xdb_block.specs.Reading.{numbers, rise}
use Rattle.xdb_block.proofs.restarts.rise.Given as goal

-- the offsets that are left rise where all do
abbrev pub invariant-loop-offset : goal.invariant-loop-offset
invariant-loop-offset l = rise l.least l.end (numbers l.rest) ≡ rise 0 l.end (numbers l.offsets)

abbrev pub decreases-loop-offset : goal.decreases-loop-offset
decreases-loop-offset l = length l.rest
