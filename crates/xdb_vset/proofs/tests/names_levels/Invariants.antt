-- The first levels named are those of a version.
use Rattle.std.proofs.Common.{◌≡◌, take, true, nat_lt}
use Rattle.std.specs.List.{list_all}
use Rattle.xdb_vset.proofs.tests.names_levels.Given as goal

abbrev pub invariant-loop-level : goal.invariant-loop-level
invariant-loop-level l = list_all (λ r. nat_lt r.0 7) (take l.level-index l.edit.removed) ≡ true

abbrev pub invariant-loop-level-2 : goal.invariant-loop-level-2
invariant-loop-level-2 l = record {
  removed : list_all (λ r. nat_lt r.0 7) l.edit.removed ≡ true;
  added : list_all (λ a. nat_lt a.0 7) (take l.level-index l.edit.added) ≡ true;
}
