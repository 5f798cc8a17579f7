-- What the loop of `all_ending_by` keeps.
use Rattle.std.proofs.Common.{◌≡◌, map, take}
use Rattle.xdb_rangedel.specs.Clip.{ending_by}
use Rattle.xdb_rangedel.proofs.parts.all_ending_by.Given as goal

abbrev pub invariant-loop-span : goal.invariant-loop-span
invariant-loop-span l = l.out.items ≡ map (ending_by l.at) (take l.span-index l.spans)
