-- What the loop of `add_below` keeps.
use Rattle.std.proofs.Common.{◌≡◌, ◌++◌, take}
use Rattle.std.specs.List.{filter}
use Rattle.xdb_mem.proofs.PickLaws.{is_under}
use Rattle.xdb_mem.proofs.parts.add_below.Given as goal

abbrev pub invariant-loop-entry : goal.invariant-loop-entry
invariant-loop-entry l = l.out.items ≡ l.fn.out.items ++ filter (is_under l.below) (take l.entry-index l.entries)
