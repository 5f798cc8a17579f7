-- What the loop of `all_ends` keeps.
use Rattle.std.proofs.Common.{◌≡◌, take}
use Rattle.std.specs.Bool.{IsTrue}
use Rattle.std.specs.List.{All}
use Rattle.xdb_rangedel.specs.Pieces.{ends, is_ordered}
use Rattle.xdb_rangedel.proofs.sweep.all_ends.Given as goal

abbrev pub invariant-loop-span : goal.invariant-loop-span
invariant-loop-span l =
    (l.bounds.items ≡ ends (take l.span-index l.spans)) × All (λ t. IsTrue (is_ordered t)) (take l.span-index l.spans)
