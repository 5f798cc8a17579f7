-- What is added to the level by the first records is copied.
use Rattle.std.proofs.Common.{◌≡◌, take, Some, None, cond, eqb}
use Rattle.std.specs.List.{filter_map}
use Rattle.xdb_levels.proofs.applying.last_added_first.Given as goal

abbrev pub invariant-loop-at : goal.invariant-loop-at
invariant-loop-at l = l.made.items ≡ filter_map (λ a. cond (eqb a.0 l.level) (Some a.1) None) (take l.at-index l.edit.added)
