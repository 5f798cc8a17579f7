use Rattle.std.proofs.Common.{◌-◌, length, None}
use Rattle.xdb_block.specs.Reading.{numbers, rows_at}
use Rattle.xdb_block.proofs.Loop.{Halfway}
use Rattle.xdb_block.proofs.rows.read_rows.Given as goal

abbrev pub invariant-loop-at : goal.invariant-loop-at
invariant-loop-at l = Halfway l.interval l.kind l.entries l.keys.items l.places.items l.last (numbers l.offsets) l.at (rows_at (length l.entries) l.interval l.kind (length l.entries) 0 None (numbers l.fn.offsets) l.entries)

abbrev pub decreases-loop-at : goal.decreases-loop-at
decreases-loop-at l = length l.entries - l.at
