use Rattle.std.proofs.Common.{◌-◌, ◌≤◌, length}
use Rattle.std.specs.List.{prefix_len}
use Rattle.xdb_block.specs.Kept.{keys_of}
use Rattle.xdb_block.specs.Rows.{is_before}
use Rattle.xdb_block.proofs.seek.place_from.Given as goal

-- the place lies between the two
abbrev pub invariant-loop-low : goal.invariant-loop-low
invariant-loop-low l = record {
  from : l.low ≤ prefix_len (is_before l.user l.trailer) (keys_of l.keys l.places);
  upto : prefix_len (is_before l.user l.trailer) (keys_of l.keys l.places) ≤ l.high;
  within : l.high ≤ length l.places;
}

abbrev pub decreases-loop-low : goal.decreases-loop-low
decreases-loop-low l = l.high - l.low
