-- The first levels added to are below the number.
use Rattle.std.proofs.Common.{◌≡◌, take, true, nat_lt}
use Rattle.std.specs.List.{list_all}
use Rattle.xdb_pick.proofs.tests.only_adds.Given as goal

abbrev pub invariant-loop-level : goal.invariant-loop-level
invariant-loop-level l = list_all (λ a. nat_lt a.0 7) (take l.level-index l.edit.added) ≡ true
