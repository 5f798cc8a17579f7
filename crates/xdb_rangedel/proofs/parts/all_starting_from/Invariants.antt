-- What the loop of `all_starting_from` keeps.
use Rattle.std.proofs.Common.{◌≡◌, map, take}
use Rattle.xdb_rangedel.specs.Clip.{starting_from}
use Rattle.xdb_rangedel.proofs.parts.all_starting_from.Given as goal

abbrev pub invariant-loop-span : goal.invariant-loop-span
invariant-loop-span l = l.out.items ≡ map (starting_from l.at) (take l.span-index l.spans)
