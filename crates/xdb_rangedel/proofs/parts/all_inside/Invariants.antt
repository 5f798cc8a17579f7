-- What the loop of `all_inside` keeps.
use Rattle.std.proofs.Common.{◌≡◌, map, take}
use Rattle.xdb_rangedel.specs.Clip.{starting_from, ending_by}
use Rattle.xdb_rangedel.proofs.parts.all_inside.Given as goal

abbrev pub invariant-loop-span : goal.invariant-loop-span
invariant-loop-span l = l.out.items ≡ map (λ t. starting_from l.range.lo (ending_by l.range.hi t)) (take l.span-index l.spans)
