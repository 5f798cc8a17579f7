-- What the loop of `strips` keeps.
use Rattle.std.proofs.Common.{◌≡◌, take, map, length}
use Rattle.std.specs.List.{All}
use Rattle.xdb_rangedel.specs.Sweep.{strip_of, FitsGaps}
use Rattle.xdb_rangedel.proofs.sweep.strips.Given as goal

abbrev pub invariant-loop-span : goal.invariant-loop-span
invariant-loop-span l =
    (l.strips.items ≡ map (strip_of l.bounds) (take l.span-index l.spans)) × All (FitsGaps (length l.bounds)) l.strips.items
