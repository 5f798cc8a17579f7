-- The first entries are points.
use Rattle.std.proofs.Common.{take}
use Rattle.std.specs.List.{All}
use Rattle.xdb_key.specs.Entries.{IsPoint}
use Rattle.xdb_build.proofs.output.are_points.Given as goal

abbrev pub invariant-loop-entry : goal.invariant-loop-entry
invariant-loop-entry l = All IsPoint (take l.entry-index l.entries)
