-- The numbers of the first spans are small.
use Rattle.std.proofs.Common.{take, ◌<◌, ◌^◌}
use Rattle.std.specs.List.{All}
use Rattle.xdb_rangedel.proofs.fragments.are_small.Given as goal

abbrev pub invariant-loop-span : goal.invariant-loop-span
invariant-loop-span l = All (λ t. t.seq < 2 ^ 56) (take l.span-index l.spans)
